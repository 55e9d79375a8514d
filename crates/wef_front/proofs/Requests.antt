-- What a source says to a request is never `InternalError`, where it can draw the ids.
use Rattle.std.proofs.Common.{◌≡◌, ℕ, Bool, true, false, cond, nat_lt, List, refl, sym, subst}
use Rattle.std.specs.Prelude.{Option, Some, None, Result, Ok, Err}
use Rattle.wef_base.specs.Names.{same}
use Rattle.wef_base.specs.declared.tree.Element.{Element}
use Rattle.wef_bodies.specs.Reading.{body_in}
use Rattle.wef_bodies.specs.declared.bodies.Body.{Body}
use Rattle.wef_bodies.specs.declared.bodies.Body.TheVariants as body
use Rattle.wef_building.specs.declared.sessions.Session.{Session}
use Rattle.wef_envelope.specs.Envelopes.{said}
use Rattle.wef_envelope.specs.declared.actions.TheConstants.{SUBSCRIBE}
use Rattle.wef_envelope.specs.declared.envelopes.Envelope.{Envelope}
use Rattle.wef_envelope.specs.declared.envelopes.EnvelopeFault.{EnvelopeFault}
use Rattle.wef_envelope.specs.declared.envelopes.EnvelopeFault.TheVariants as envelope
use Rattle.wef_eventing.specs.declared.offers.Subscribe.{Subscribe}
use Rattle.wef_ids.specs.declared.FaultName.{FaultName}
use Rattle.wef_ids.specs.declared.FaultName.TheVariants as the
use Rattle.wef_replies.specs.Refusals.{HearsRead, is_nameless}
use Rattle.wef_replies.proofs.OneIsHeard as any
use Rattle.wef_source.specs.Machine.{End, ids_left}
use Rattle.wef_source.specs.Sessions.{has_expired, leased_as}
use Rattle.wef_subscribes.specs.Subscribes.{subscribe_in}
use Rattle.wef_subscribes.specs.declared.faults.BodyFault.{BodyFault}
use Rattle.wef_subscribes.specs.declared.faults.BodyFault.TheVariants.{NoMemory, BadBody, BadMode, BadFilter, BadExpires}
use Rattle.wef_subscribes.specs.declared.faults.Part.{Part}
use Rattle.wef_subscribes.specs.declared.faults.Part.TheVariants as part
use Rattle.wef_xml.specs.declared.faults.TreeFault.{TreeFault}
use Rattle.wef_xml.specs.declared.faults.TreeFault.TheVariants as tree
use Rattle.wef_front.specs.Requests.{InternalErrorsWantIds, OneRequestIsHeard}
use Rattle.wef_front_source.specs.Heard.{asked_at, asked_by, asked_of, body_refused, heard_in, is_managing, manage_asked, part_refused, unheard, wanted_in, wish_asked}
use Rattle.wef_front_source.specs.Steps.{managed_said, said_by, unless_expired, with_ids}
use Rattle.wef_front_source.specs.declared.hearing.Asked.{Asked}
use Rattle.wef_front_source.specs.declared.hearing.Asked.TheVariants.{Refused, Begin, Manage}
use Rattle.wef_front_source.specs.declared.hearing.Heard.{Heard}
use Rattle.wef_front_source.specs.declared.hearing.Wants.{Wants}
use Rattle.wef_front_source.specs.declared.hearing.Wants.TheVariants as wants
use Rattle.wef_front_source.specs.declared.saying.Said.{Said}
use Rattle.wef_front_source.specs.declared.saying.Said.TheVariants.{Done, Fault, Spent}

pub one_request_is_heard : OneRequestIsHeard
one_request_is_heard now charset bytes heard other hears again = any.one_is_heard (heard_in now) unheard charset bytes heard other hears again

-- ---- no message is refused so

abbrev is_internal : FaultName → Bool
is_internal the.InternalError = true
is_internal _ = false

abbrev IsOtherName : FaultName → Type 0
IsOtherName name = is_internal name ≡ false

part_other : (p : Part) → IsOtherName (part_refused p)
part_other part.Bookmark = refl
part_other _ = refl

body_other : (fault : BodyFault) → IsOtherName (body_refused fault)
body_other NoMemory = refl
body_other (BadBody p) = part_other p
body_other BadMode = refl
body_other BadFilter = refl
body_other BadExpires = refl

abbrev IsOtherWant : Wants → Type 0
IsOtherWant (wants.Unread name) = IsOtherName name
IsOtherWant _ = Unit {0}

abbrev IsOther : Asked → Type 0
IsOther (Refused name) = IsOtherName name
IsOther (Begin wish) = Unit {0}
IsOther (Manage identifier wanted) = IsOtherWant wanted

wanted_other : (r : Result Body BodyFault) → IsOtherWant (wanted_in r)
wanted_other (Ok (body.Renew expires)) = tt
wanted_other (Ok body.GetStatus) = tt
wanted_other (Ok body.Unsubscribe) = tt
wanted_other (Ok body.Enumerate) = refl
wanted_other (Ok (body.Offers offers)) = refl
wanted_other (Ok (body.Subscribe wish)) = refl
wanted_other (Ok (body.Subscribed identifier expires)) = refl
wanted_other (Ok (body.Renewed expires)) = refl
wanted_other (Ok (body.StatusIs expires)) = refl
wanted_other (Ok body.Unsubscribed) = refl
wanted_other (Ok (body.Ended identifier status)) = refl
wanted_other (Err fault) = body_other fault

wish_other : (r : Result Subscribe BodyFault) → IsOther (wish_asked r)
wish_other (Ok wish) = tt
wish_other (Err fault) = body_other fault

manage_other : (identifier : Option (List ℕ)) (wanted : Wants) → IsOtherWant wanted → IsOther (manage_asked identifier wanted)
manage_other None wanted is = refl
manage_other (Some i) wanted is = is

at_other : (now : ℕ) (e : Envelope) → IsOther (asked_at now e)
at_other now e = by (same e.action SUBSCRIBE.now) (is_managing e.action)
  where
    by : (begins manages : Bool) → IsOther (cond begins (wish_asked (subscribe_in now e.body)) (cond manages (manage_asked e.identifier (wanted_in (body_in now e))) (Refused the.ActionNotSupported)))
    by true manages = wish_other (subscribe_in now e.body)
    by false true = manage_other e.identifier (wanted_in (body_in now e)) (wanted_other (body_in now e))
    by false false = refl

by_other : (now : ℕ) (e : Envelope) → IsOther (asked_by now e)
by_other now e = by (is_nameless e)
  where
    by : (nameless : Bool) → IsOther (cond nameless (Refused the.MessageInformationHeaderRequired) (asked_at now e))
    by true = refl
    by false = at_other now e

of_other : (now : ℕ) (given : Result Envelope EnvelopeFault) → IsOther (asked_of now given)
of_other now (Ok e) = by_other now e
of_other now (Err envelope.NoMemory) = refl
of_other now (Err envelope.NotSoap) = refl
of_other now (Err (envelope.MustUnderstand name)) = refl
of_other now (Err (envelope.HeaderRequired name)) = refl
of_other now (Err (envelope.RepeatedHeader name)) = refl

read_other : (now : ℕ) (read : Result Element TreeFault) (heard : Heard) → HearsRead (heard_in now) unheard read heard → IsOther heard.asked
read_other now (Ok root) heard is = let P : Heard → Type 0 = λ h. IsOther h.asked in subst P (sym is) (of_other now (said root))
read_other now (Err tree.NoMemory) heard is = absurd is
read_other now (Err (tree.BadCharset at)) heard is = let P : Heard → Type 0 = λ h. IsOther h.asked in subst P (sym is) refl
read_other now (Err (tree.TooDeep at)) heard is = let P : Heard → Type 0 = λ h. IsOther h.asked in subst P (sym is) refl
read_other now (Err (tree.BadXml at)) heard is = let P : Heard → Type 0 = λ h. IsOther h.asked in subst P (sym is) refl
read_other now (Err (tree.Refused at)) heard is = let P : Heard → Type 0 = λ h. IsOther h.asked in subst P (sym is) refl

-- ---- nor is anything said so

name_other : (name : FaultName) → IsOtherName name → Fault name ≡ Fault the.InternalError → ⊥
name_other name other is = cc

ids_other : (needed : ℕ) (end : End) (answer : Body) → with_ids needed end answer ≡ Fault the.InternalError → ⊥
ids_other needed end answer = by (nat_lt (ids_left end) needed)
  where
    by : (few : Bool) → cond few Spent (Done answer) ≡ Fault the.InternalError → ⊥
    by true is = cc
    by false is = cc

expired_other : (now : ℕ) (session : Session) (answer : Said) → (answer ≡ Fault the.InternalError → ⊥) → unless_expired now session answer ≡ Fault the.InternalError → ⊥
expired_other now session answer other = by (has_expired now session)
  where
    by : (expired : Bool) → cond expired (Fault the.UnableToRenew) answer ≡ Fault the.InternalError → ⊥
    by true is = cc
    by false is = other is

managed_other : (end : End) (wanted : Wants) (now : ℕ) (o : Option Session) → IsOtherWant wanted → managed_said end wanted now o ≡ Fault the.InternalError → ⊥
managed_other end wanted now None other is = cc
managed_other end (wants.Unread name) now (Some session) other is = name_other name other is
managed_other end (wants.Renew expires) now (Some session) other is = expired_other now session _ (ids_other 1 end _) is
managed_other end wants.GetStatus now (Some session) other is = expired_other now session _ (ids_other 1 end _) is
managed_other end wants.Unsubscribe now (Some session) other is = ids_other 1 end _ is

said_other : (end : End) (asked : Asked) (now : ℕ) → IsOther asked → said_by end asked now ≡ Fault the.InternalError → ⊥
said_other end (Refused name) now other is = name_other name other is
said_other end (Begin wish) now other is = ids_other 2 end _ is
said_other end (Manage identifier wanted) now other is = managed_other end wanted now (leased_as end.sessions identifier) other is

pub internal_errors_want_ids : InternalErrorsWantIds
internal_errors_want_ids end now charset bytes heard hears is = said_other end heard.asked now (read_other now hears.0 heard hears.2) is
