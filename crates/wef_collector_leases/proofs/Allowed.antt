-- The texts of what is due are those of the subscription and of the lease, which XML allows.
use Rattle.std.proofs.Common.{◌≡◌, ℕ, Bool, true, false, nat_le, sym, subst, if◌then◌else◌, List, ◌+◌, ◌/◌}
use Rattle.std.specs.Cmp.Lexicographic.{slice_cmp}
use Rattle.std.specs.Ordering.{nat_cmp, is_lt}
use Rattle.std.specs.Prelude.{Option, Some, None, IfSome}
use Rattle.wef_documents.specs.Kept.{read_kept}
use Rattle.wef_documents.specs.Laws.{HasXmlAddress, HasXmlTexts}
use Rattle.wef_documents.proofs.KeptBack.{kept_xml}
use Rattle.wef_eventing.specs.declared.subscriptions.SourceAt.{SourceAt}
use Rattle.wef_eventing.specs.declared.subscriptions.Subscription.{Subscription}
use Rattle.wef_collector_leases.specs.Due.{due_for}
use Rattle.wef_collector_leases.specs.Leases.{IsXmlLease, IsXmlWish}
use Rattle.wef_collector_leases.specs.Next.{IsXmlDue, IsXmlDueSource, due_with, earlier, wanted_at}
use Rattle.wef_collector_leases.specs.declared.leases.Lease.{Lease}
use Rattle.wef_collector_leases.specs.declared.leases.Wants.{Wants}
use Rattle.wef_collector_leases.specs.declared.leases.Wants.TheVariants.{Subscribes, Renews}
use Rattle.wef_collector_leases.specs.declared.next.Due.{Due}
use Rattle.wef_collector_leases.specs.declared.next.DueSource.{DueSource}

leased : (lease : Lease) (over near : Bool) → IsXmlLease lease → IfSome (if over then Some Subscribes else (if near then Some (Renews lease.identifier) else None)) IsXmlWish
leased lease true near allowed = tt
leased lease false true allowed = allowed
leased lease false false allowed = tt

wish : (live : Bool) (now expires : ℕ) (lease : Option Lease) → IfSome lease IsXmlLease → IfSome (due_for live now expires lease) IsXmlWish
wish true now expires None allowed = tt
wish true now expires (Some lease) allowed = leased lease (nat_le lease.expiry now) (nat_le lease.expiry (now + expires / 2)) allowed
wish false now expires None allowed = tt
wish false now expires (Some lease) allowed = allowed

at_source : (source : SourceAt) (wants : Option Wants) → HasXmlAddress source → IfSome wants IsXmlWish → IfSome (wanted_at source wants) IsXmlDueSource
at_source source None address allowed = tt
at_source source (Some wants) address allowed = record { wants = allowed; source = address }

pub wanted_allowed : (live : Bool) (now expires : ℕ) (lease : Option Lease) (source : SourceAt) (wants : Option Wants) (due : Option DueSource) → HasXmlAddress source → IfSome lease IsXmlLease → wants ≡ due_for live now expires lease
    → due ≡ wanted_at source wants → IfSome due IsXmlDueSource
wanted_allowed live now expires lease source wants due address allowed is made =
    let here = subst (λ (o : Option Wants). IfSome o IsXmlWish) (sym is) (wish live now expires lease allowed) in
    subst (λ (o : Option DueSource). IfSome o IsXmlDueSource) (sym made) (at_source source wants address here)

one_of : (least due : DueSource) (t : Bool) → IsXmlDueSource least → IsXmlDueSource due → IsXmlDueSource (if t then due else least)
one_of least due true first second = second
one_of least due false first second = first

either : (least due : Option DueSource) → IfSome least IsXmlDueSource → IfSome due IsXmlDueSource → IfSome (earlier least due) IsXmlDueSource
either least None first second = first
either None (Some due) first second = second
either (Some least) (Some due) first second = one_of least due (is_lt (slice_cmp nat_cmp due.source.name least.source.name)) first second

pub earlier_allowed : (least due made : Option DueSource) → made ≡ earlier least due → IfSome least IsXmlDueSource → IfSome due IsXmlDueSource → IfSome made IsXmlDueSource
earlier_allowed least due made is first second = subst (λ (o : Option DueSource). IfSome o IsXmlDueSource) (sym is) (either least due first second)

with_allowed : (subscription : Subscription) (found : Option DueSource) → HasXmlTexts subscription → IfSome found IsXmlDueSource → IfSome (due_with subscription found) IsXmlDue
with_allowed subscription None texts allowed = tt
with_allowed subscription (Some found) texts allowed = record { wants = allowed.wants; source = allowed.source; subscription = texts }

pub due_allowed : (subscription : Subscription) (found : Option DueSource) (due : Option Due) → due ≡ due_with subscription found → HasXmlTexts subscription → IfSome found IsXmlDueSource → IfSome due IsXmlDue
due_allowed subscription found due is texts allowed = subst (λ (o : Option Due). IfSome o IsXmlDue) (sym is) (with_allowed subscription found texts allowed)

-- the texts of a listed subscription
pub listed_allowed : (u body : List ℕ) (s : Subscription) → Some s ≡ read_kept u body → HasXmlTexts s
listed_allowed u body s is = kept_xml u body s (sym is)
