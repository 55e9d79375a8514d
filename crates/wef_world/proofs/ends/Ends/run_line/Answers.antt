use Rattle.std.proofs.Common.{◌≡◌, true, subst, sym}
use Rattle.std.proofs.lemmas.Bool.{and_parts}
use Rattle.wef_batch.specs.Numbers.{AreNumbered}
use Rattle.wef_batch.specs.declared.items.Batch.{Batch as TheBatch}
use Rattle.wef_safety.proofs.GoodLines.{begun, begun_again, numbered_batch, subscription_again}
use Rattle.wef_machine.specs.States.{names_of}
use Rattle.wef_machine.specs.Steps.{admits}
use Rattle.wef_replay.specs.Good.{allows, is_line}
use Rattle.wef_replay.specs.declared.lines.Line.{Line}
use Rattle.wef_replay.specs.declared.lines.Line.TheVariants.{Subscribe, SubscribeAt, Batch}
use Rattle.wef_world.proofs.ends.Ends.run_line.Goals as goal

pub subscribe-requires-clause-back : goal.subscribe-requires-clause-back
subscribe-requires-clause-back g c =
    let line : Line = Subscribe c.in-Subscribe.sub c.in-Subscribe.items c.in-Subscribe.bytes c.in-Subscribe.beat c.in-Subscribe.query in
    let good = subst (λ (l : Line). admits c.args.self.now l ≡ true) c.in-Subscribe.is c.requires.admitted in
    subscription_again c.in-Subscribe.sub c.in-Subscribe.items c.in-Subscribe.bytes c.in-Subscribe.beat c.in-Subscribe.query (and_parts (is_line line) (allows (names_of c.args.self.now) line) good).0

pub subscribe_at-requires-clause-back : goal.subscribe_at-requires-clause-back
subscribe_at-requires-clause-back g c =
    let at = c.in-SubscribeAt in
    let line : Line = SubscribeAt at.sub at.source at.items at.bytes at.beat at.expires at.query in
    let good = subst (λ (l : Line). admits c.args.self.now l ≡ true) at.is c.requires.admitted in
    begun_again at.sub at.source at.items at.bytes at.beat at.expires at.query
    (begun at.sub at.source at.items at.bytes at.beat at.expires at.query (and_parts (is_line line) (allows (names_of c.args.self.now) line) good).0)

pub take-requires-clause-numbered : goal.take-requires-clause-numbered
take-requires-clause-numbered g c =
    let line : Line = Batch c.in-Batch.sub c.in-Batch.source c.in-Batch.batch in
    let good = subst (λ (l : Line). admits c.args.self.now l ≡ true) c.in-Batch.is c.requires.admitted in
    subst (λ (b : TheBatch). AreNumbered b.items) (sym c.in_ok-to_batch-in-Batch.ensures) (numbered_batch c.in-Batch.sub c.in-Batch.source c.in-Batch.batch (and_parts (is_line line) (allows (names_of c.args.self.now) line) good).0)
