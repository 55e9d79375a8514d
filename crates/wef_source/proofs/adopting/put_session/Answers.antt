use Rattle.std.proofs.Common.{◌≡◌, ◌<◌, ◌≤◌, ap, sym, subst, ◌∙◌, length, vec_len, Ok, Err}
use Rattle.wef_source.specs.Placing.{place_in}
use Rattle.wef_source.specs.Serving.{AreKept}
use Rattle.wef_source.proofs.Placements.{inserted_at, replaced_at, with_session_kept}
use Rattle.wef_source.proofs.adopting.put_session.Goals as goal

pub index_mut-requires : goal.index_mut-requires
index_mut-requires c =
    let at : place_in c.args.sessions.now.items c.args.session.name ≡ Ok c.in-Ok.place = cc in
    let within = (replaced_at c.args.sessions.now.items c.args.session c.in-Ok.place at).0 in
    let long : length c.args.sessions.now.items ≡ vec_len c.args.sessions.now = ap length (sym c.as_slice.ensures.value) ∙ c.as_slice.ensures.len in
    subst (λ n. c.in-Ok.place < n) long within

pub insert-requires : goal.insert-requires
insert-requires c =
    let at : place_in c.args.sessions.now.items c.args.session.name ≡ Err c.in-Err.place = cc in
    let within = (inserted_at c.args.sessions.now.items c.args.session c.in-Err.place at).0 in
    let long : length c.args.sessions.now.items ≡ vec_len c.args.sessions.now = ap length (sym c.as_slice.ensures.value) ∙ c.as_slice.ensures.len in
    subst (λ n. c.in-Err.place ≤ n) long within

pub returns-in-Ok-clause-ok : goal.returns-in-Ok-clause-ok
returns-in-Ok-clause-ok c =
    let at : place_in c.args.sessions.now.items c.args.session.name ≡ Ok c.in-Ok.place = cc in
    sym (replaced_at c.args.sessions.now.items c.args.session c.in-Ok.place at).1

pub returns-in-Ok-clause-kept : goal.returns-in-Ok-clause-kept
returns-in-Ok-clause-kept c =
    subst AreKept (sym (returns-in-Ok-clause-ok c)) (with_session_kept c.args.sessions.now.items c.args.session c.requires.kept c.requires.served)

pub returns-in_ok-insert-in-Err-clause-ok : goal.returns-in_ok-insert-in-Err-clause-ok
returns-in_ok-insert-in-Err-clause-ok c =
    let at : place_in c.args.sessions.now.items c.args.session.name ≡ Err c.in-Err.place = cc in
    c.in_ok-insert-in-Err.ensures.items ∙ sym (inserted_at c.args.sessions.now.items c.args.session c.in-Err.place at).1

pub returns-in_ok-insert-in-Err-clause-kept : goal.returns-in_ok-insert-in-Err-clause-kept
returns-in_ok-insert-in-Err-clause-kept c =
    subst AreKept (sym (returns-in_ok-insert-in-Err-clause-ok c)) (with_session_kept c.args.sessions.now.items c.args.session c.requires.kept c.requires.served)
