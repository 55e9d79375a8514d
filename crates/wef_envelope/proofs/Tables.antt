-- A test of all headers, and one of all names of faults, is one list that computes.
use Rattle.std.proofs.Common.{◌≡◌, ℕ, zero, suc, Bool, true, List, [], ◌∷◌, ◌++◌, refl, subst}
use Rattle.std.specs.Prelude.{Some, slice_get}
use Rattle.std.specs.List.{list_all}
use Rattle.std.proofs.lemmas.Bool.{and_parts}
use Rattle.wef_ids.specs.declared.FaultName.{FaultName}
use Rattle.wef_ids.specs.declared.FaultName.TheVariants as name
use Rattle.wef_envelope.specs.Faults.{is_known}
use Rattle.wef_envelope.specs.Headers.{number_of}
use Rattle.wef_envelope.specs.declared.headers.Header.{Header}
use Rattle.wef_envelope.specs.declared.headers.Header.TheVariants as the
use Rattle.wef_envelope.specs.declared.headers.TheConstants.{NAMED}

-- what all pass is passed at each place
passes_at : {A : Type 0} (test : A → Bool) (xs : List A) → list_all test xs ≡ true → (place : ℕ) (x : A) → slice_get xs place ≡ Some x → test x ≡ true
passes_at test [] all place x is = let bad : ⊥ = cc in absurd bad
passes_at test (y ∷ ys) all zero x is = let same : y ≡ x = cc in subst (λ z. test z ≡ true) same (and_parts (test y) (list_all test ys) all).0
passes_at test (y ∷ ys) all (suc place) x is = passes_at test ys (and_parts (test y) (list_all test ys) all).1 place x is

-- ---- headers

abbrev pub headers : List Header
headers = NAMED.now ++ the.Private ∷ []

-- each stands at its number
placed : (header : Header) → slice_get headers (number_of header) ≡ Some header
placed the.To = refl
placed the.Resource = refl
placed the.ReplyTo = refl
placed the.Action = refl
placed the.MessageId = refl
placed the.Relates = refl
placed the.Machine = refl
placed the.MaxSize = refl
placed the.Identifier = refl
placed the.Bookmark = refl
placed the.AckRequested = refl
placed the.From = refl
placed the.FaultTo = refl
placed the.Locale = refl
placed the.OperationTimeout = refl
placed the.SelectorSet = refl
placed the.OptionSet = refl
placed the.Private = refl

pub each_header : (test : Header → Bool) → list_all test headers ≡ true → (header : Header) → test header ≡ true
each_header test all header = passes_at test headers all (number_of header) header (placed header)

-- ---- names of faults

-- those of the table
abbrev pub names : List FaultName
names = name.DeliveryModeRequestedUnavailable ∷ name.FilteringRequestedUnavailable ∷ name.InvalidExpirationTime ∷ name.InvalidMessage ∷ name.UnableToRenew ∷ name.ActionNotSupported ∷ name.DestinationUnreachable ∷ name.MessageInformationHeaderRequired ∷ name.InvalidBookmark ∷ name.EncodingLimit ∷ name.InternalError ∷ name.InvalidEnumerationContext ∷ name.MustUnderstand ∷ []

pub each_known : (test : FaultName → Bool) → list_all test names ≡ true → (fault : FaultName) → is_known fault ≡ true → test fault ≡ true
each_known test all name.DeliveryModeRequestedUnavailable known = passes_at test names all 0 name.DeliveryModeRequestedUnavailable refl
each_known test all name.FilteringRequestedUnavailable known = passes_at test names all 1 name.FilteringRequestedUnavailable refl
each_known test all name.InvalidExpirationTime known = passes_at test names all 2 name.InvalidExpirationTime refl
each_known test all name.InvalidMessage known = passes_at test names all 3 name.InvalidMessage refl
each_known test all name.UnableToRenew known = passes_at test names all 4 name.UnableToRenew refl
each_known test all name.ActionNotSupported known = passes_at test names all 5 name.ActionNotSupported refl
each_known test all name.DestinationUnreachable known = passes_at test names all 6 name.DestinationUnreachable refl
each_known test all name.MessageInformationHeaderRequired known = passes_at test names all 7 name.MessageInformationHeaderRequired refl
each_known test all name.InvalidBookmark known = passes_at test names all 8 name.InvalidBookmark refl
each_known test all name.EncodingLimit known = passes_at test names all 9 name.EncodingLimit refl
each_known test all name.InternalError known = passes_at test names all 10 name.InternalError refl
each_known test all name.InvalidEnumerationContext known = passes_at test names all 11 name.InvalidEnumerationContext refl
each_known test all name.MustUnderstand known = passes_at test names all 12 name.MustUnderstand refl
each_known test all (name.Other text) known = let bad : ⊥ = cc in absurd bad
