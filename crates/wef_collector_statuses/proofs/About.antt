-- What is told of a subscription, live or ended, is what its name leads to.
use Rattle.std.proofs.Common.{◌≡◌, ℕ, ◌<◌, ◌≤◌, ◌==◌, ◌||◌, Bool, true, false, cond, List, [], ◌∷◌, map, length, nat_lt, encode_utf8_all, refl, sym, ap, ◌∙◌, subst, arith}
use Rattle.std.proofs.lemmas.Option.{same_Some}
use Rattle.std.proofs.lemmas.Str.{length-le-encodes}
use Rattle.std.specs.FinMap as finite
use Rattle.std.specs.List.{AllByRecursion, list_all, list_any}
use Rattle.std.specs.Prelude.{Option, Some, None, IfSome}
use Rattle.std.specs.Str.{chars}
use Rattle.wef_base.specs.Names.{is_forbidden, name_of_characters, source_name, spelt, trimmed_characters}
use Rattle.wef_base.specs.declared.names.Letters.TheVariants.{Small}
use Rattle.wef_documents.proofs.KeptBack.{kept_plain}
use Rattle.wef_documents.specs.Addresses.{machine_of}
use Rattle.wef_documents.specs.Kept.{read_kept}
use Rattle.wef_documents.specs.Laws.{ArePlainSources, IsPlainSource}
use Rattle.wef_eventing.specs.declared.subscriptions.SourceAt.{SourceAt}
use Rattle.wef_eventing.specs.declared.subscriptions.SubKind.{SubKind}
use Rattle.wef_eventing.specs.declared.subscriptions.SubKind.TheVariants.{BySource, ByCollector}
use Rattle.wef_eventing.specs.declared.subscriptions.Subscription.{Subscription}
use Rattle.wef_keeper.specs.Rows.{Rows}
use Rattle.wef_keeper.specs.declared.keys.Cell.{Cell}
use Rattle.wef_query.specs.Order.{in_order}
use Rattle.wef_collector_reports.specs.Report.{heard_rows}
use Rattle.wef_collector_rows.specs.Forms.{is_formed}
use Rattle.wef_collector_rows.specs.Keys.{subscription_key}
use Rattle.wef_collector_rows.specs.Standing.{standing, standing_by, standing_of}
use Rattle.wef_collector_rows.specs.declared.standings.Standing.{Standing}
use Rattle.wef_collector_rows.specs.declared.standings.Standing.TheVariants.{Unknown, Ended, Live}
use Rattle.wef_collector_statuses.specs.Lines.{told}
use Rattle.wef_collector_statuses.specs.Statuses.{IsAbout, statuses, statuses_by, statuses_of}
use Rattle.wef_collector_statuses.proofs.Told.{IsSome, lines_are}

-- ---- the names of its sources have a byte or more

of_characters : (cs name : List ℕ) → name_of_characters Small 255 cs ≡ Some name → IsSome name
of_characters [] name e = let bad : ⊥ = cc in absurd bad
of_characters (c ∷ cs) name e = by (list_any is_forbidden (c ∷ cs) || nat_lt 255 (length (encode_utf8_all (map (spelt Small) (c ∷ cs))))) e
  where
    by : (b : Bool) → cond b None (Some (encode_utf8_all (map (spelt Small) (c ∷ cs)))) ≡ Some name → IsSome name
    by true e = let bad : ⊥ = cc in absurd bad
    by false e =
        let enough = length-le-encodes (map (spelt Small) (c ∷ cs)) in
        subst IsSome (same_Some (encode_utf8_all (map (spelt Small) (c ∷ cs))) name e) (omega (arith, enough))

named : (text name : List ℕ) → source_name text ≡ Some name → IsSome name
unfolding source_name
named text name e = of_characters (trimmed_characters (chars text)) name e

abbrev names_of : List SourceAt → List (List ℕ)
names_of sources = map (λ (at : SourceAt). at.name) sources

each_named : (sources : List SourceAt) → AllByRecursion IsPlainSource sources → AllByRecursion IsSome (names_of sources)
each_named [] all = tt
each_named (s ∷ sources) all = (named (machine_of s.address) s.name all.0.name, each_named sources all.1)

plain_named : (kind : SubKind) (sources : List SourceAt) → ArePlainSources kind sources → AllByRecursion IsSome (names_of sources)
plain_named BySource sources is = subst (λ (list : List SourceAt). AllByRecursion IsSome (names_of list)) (sym is) tt
plain_named ByCollector sources is = each_named sources is.2

about_named : (u : List ℕ) (found : Option Cell) (about : Subscription) → IsAbout about (standing_of u found) → AllByRecursion IsSome (names_of about.sources)
about_named u None about is = absurd is
about_named u (Some cell) about is = by_kept (read_kept u cell.body) refl is
  where
    by : (s : Subscription) → read_kept u cell.body ≡ Some s → (live : Bool) → IsAbout about (cond live (Live s) (Ended s)) → AllByRecursion IsSome (names_of about.sources)
    by s kept true is = subst (λ (x : Subscription). AllByRecursion IsSome (names_of x.sources)) (sym is) (plain_named s.kind s.sources (kept_plain u cell.body s kept).sources)
    by s kept false is = subst (λ (x : Subscription). AllByRecursion IsSome (names_of x.sources)) (sym is) (plain_named s.kind s.sources (kept_plain u cell.body s kept).sources)

    by_kept : (kept : Option Subscription) → read_kept u cell.body ≡ kept → IsAbout about (standing_by cell.value kept) → AllByRecursion IsSome (names_of about.sources)
    by_kept None kept is = absurd is
    by_kept (Some s) kept is = by s kept (cell.value == 0) is

-- ---- its lines

about_lines : (rows : Rows) (u : List ℕ) (now : ℕ) (about : Subscription) (found : Standing) → IsAbout about found → statuses_of rows about u now ≡ statuses_by rows u now found
about_lines rows u now about Unknown is = absurd is
about_lines rows u now about (Ended s) is = ap (λ (x : Subscription). statuses_of rows x u now) is
about_lines rows u now about (Live s) is = ap (λ (x : Subscription). statuses_of rows x u now) is

pub statuses_told : (known : Option Rows) (text u sub : List ℕ) (now : ℕ) (about : Subscription) (sources : List SourceAt) → sub ≡ u → sources ≡ about.sources
    → IfSome known (λ rows. IsAbout about (standing rows u)) → IfSome known (λ rows. list_all is_formed (heard_rows rows sub) ≡ true)
    → IfSome known (λ rows. text ≡ told (record { sub = sub; heartbeat = about.heartbeat; moment = now }) (heard_rows rows sub) (in_order (names_of sources)))
    → IfSome known (λ rows. text ≡ statuses rows u now)
statuses_told None text u sub now about sources one listed is formed lines = tt
statuses_told (Some rows) text u sub now about sources one listed is formed lines =
    lines
    ∙ (λ i. told (record { sub = one i; heartbeat = about.heartbeat; moment = now }) (heard_rows rows (one i)) (in_order (names_of (listed i))))
    ∙ lines_are rows about u now (subst (λ (name : List ℕ). list_all is_formed (heard_rows rows name) ≡ true) one formed) (about_named u (finite.get rows (subscription_key u)) about is)
    ∙ about_lines rows u now about (standing rows u) is
