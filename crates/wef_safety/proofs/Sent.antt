-- Messages that were sent, and lists of which each element has a fact.
use Rattle.std.proofs.Common.{◌≡◌, ℕ, zero, suc, ◌-◌, ◌==◌, Bool, true, false, List, [], ◌∷◌, ◌++◌, map, cond, refl, subst, inl, inr}
use Rattle.std.specs.Prelude.{Option, Some, None, slice_get, ◌⊎◌}
use Rattle.std.specs.List.{AllByRecursion, cons_option, filter_map}
use Rattle.wef_machine.specs.Deliveries.{message_at}
use Rattle.wef_machine.specs.States.{State}
use Rattle.wef_machine.specs.declared.messages.Message.{Message}
use Rattle.wef_safety.specs.Safe.{WasSent}

-- what was sent stays so, whatever else is sent
pub sent_still : (messages more : List Message) (m : Message) → WasSent messages m → WasSent (messages ++ more) m
sent_still [] more m was = absurd was
sent_still (x ∷ messages) more m (inl e) = inl e
sent_still (x ∷ messages) more m (inr was) = inr (sent_still messages more m was)

pub sent_before : (messages : List Message) (n m : Message) → WasSent messages m → WasSent (messages ++ n ∷ []) m
sent_before messages n m was = sent_still messages (n ∷ []) m was

pub sent_last : (messages : List Message) (n : Message) → WasSent (messages ++ n ∷ []) n
sent_last [] n = inl refl
sent_last (x ∷ messages) n = inr (sent_last messages n)

-- what is among messages and more is among the first or the others
pub sent_either : (messages more : List Message) (m : Message) → WasSent (messages ++ more) m → WasSent messages m ⊎ WasSent more m
sent_either [] more m was = inr was
sent_either (x ∷ messages) more m (inl e) = inl (inl e)
sent_either (x ∷ messages) more m (inr was) = elim (sent_either messages more m was) [ inl before ↦ inl (inr before) | inr last ↦ inr last ]

-- what was sent once a message is sent was sent before, or is that message
pub sent_split : (messages : List Message) (n m : Message) → WasSent (messages ++ n ∷ []) m → WasSent messages m ⊎ (n ≡ m)
sent_split [] n m (inl e) = inr e
sent_split [] n m (inr was) = absurd was
sent_split (x ∷ messages) n m (inl e) = inl (inl e)
sent_split (x ∷ messages) n m (inr was) = elim (sent_split messages n m was) [ inl before ↦ inl (inr before) | inr e ↦ inr e ]

-- what holds of a message holds of each that was sent where it is the only one
pub sent_only : (m : Message) (P : Message → Type 0) → P m → (n : Message) → WasSent (m ∷ []) n → P n
sent_only m P holds n (inl e) = subst P e holds
sent_only m P holds n (inr was) = absurd was

-- what holds of the messages that elements are made to holds of each that was sent where these are all
pub sent_mapped : {X : Type 0} (f : X → Message) (P : Message → Type 0) (xs : List X) → AllByRecursion (λ x. P (f x)) xs → (m : Message) → WasSent (map f xs) m → P m
sent_mapped f P [] all m was = absurd was
sent_mapped f P (x ∷ xs) all m (inl e) = subst P e all.0
sent_mapped f P (x ∷ xs) all m (inr was) = sent_mapped f P xs all.1 m was

sent_at : (messages : List Message) (k : ℕ) (m : Message) → slice_get messages k ≡ Some m → WasSent messages m
sent_at [] k m e = cc
sent_at (x ∷ messages) zero m e = inl cc
sent_at (x ∷ messages) (suc k) m e = inr (sent_at messages k m e)

under_test : (t : Bool) (messages : List Message) (k : ℕ) (m : Message) → ◌≡◌ {A = Option Message} (cond t None (slice_get messages k)) (Some m) → WasSent messages m
under_test true messages k m e = cc
under_test false messages k m e = sent_at messages k m e

-- the message of a number was sent
pub sent_by_number : (state : State) (k : ℕ) (m : Message) → message_at state k ≡ Some m → WasSent state.messages m
sent_by_number state k m e = under_test (k == 0) state.messages (k - 1) m e

-- ---- facts of each element

pub all_map : {X : Type 0} (P Q : X → Type 0) → ((x : X) → P x → Q x) → (xs : List X) → AllByRecursion P xs → AllByRecursion Q xs
all_map P Q f [] all = tt
all_map P Q f (x ∷ xs) all = (f x all.0, all_map P Q f xs all.1)

pub all_joined : {X : Type 0} (P : X → Type 0) (xs ys : List X) → AllByRecursion P xs → AllByRecursion P ys → AllByRecursion P (xs ++ ys)
all_joined P [] ys first second = second
all_joined P (x ∷ xs) ys first second = (first.0, all_joined P xs ys first.1 second)

all_cons : {Y : Type 0} (Q : Y → Type 0) (o : Option Y) (ys : List Y) → ((y : Y) → o ≡ Some y → Q y) → AllByRecursion Q ys → AllByRecursion Q (cons_option o ys)
all_cons Q None ys holds all = all
all_cons Q (Some y) ys holds all = (holds y refl, all)

pub all_filter_map : {X Y : Type 0} (P : X → Type 0) (Q : Y → Type 0) (f : X → Option Y) → ((x : X) (y : Y) → P x → f x ≡ Some y → Q y) →
    (xs : List X) → AllByRecursion P xs → AllByRecursion Q (filter_map f xs)
all_filter_map P Q f gives [] all = tt
all_filter_map P Q f gives (x ∷ xs) all = all_cons Q (f x) (filter_map f xs) (λ y e. gives x y all.0 e) (all_filter_map P Q f gives xs all.1)
