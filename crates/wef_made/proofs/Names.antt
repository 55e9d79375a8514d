-- The names of made schedules are such as their readers give.
use Rattle.std.proofs.Common.{◌≡◌, ℕ, ◌==◌, Bool, true, false, cond, List, Some, codes, refl, sym, subst}
use Rattle.std.proofs.Math.Bool.{Bool-set}
use Rattle.std.specs.Str.{chars}
use lib.Utf8.{encode}
use Rattle.wef_base.specs.Characters.{is_xml_text}
use Rattle.wef_base.specs.Names as names
use Rattle.wef_event.specs.declared.unnumbered.PlainEvent.{PlainEvent}
use Rattle.wef_made.specs.Made as made

-- a fact of each of the four sources
pub each_source : (P : List ℕ → Type 0) → P (codes "s0") → P (codes "s1") → P (codes "s2") → P (codes "s3") → (n : ℕ) → P (made.source_name n)
each_source P first second third fourth n = by (n == 0) (n == 1) (n == 2)
  where
    by : (a b c : Bool) → P (cond a (codes "s0") (cond b (codes "s1") (cond c (codes "s2") (codes "s3"))))
    by true b c = first
    by false true c = second
    by false false true = third
    by false false false = fourth

-- and of each of the two channels
pub each_channel : (P : List ℕ → Type 0) → P (codes "application") → P (codes "system") → (n : ℕ) → P (made.channel_name n)
each_channel P first second n = by (n == 0)
  where
    by : (a : Bool) → P (cond a (codes "application") (codes "system"))
    by true = first
    by false = second

pub source_is : (n : ℕ) → names.source_name (made.source_name n) ≡ Some (made.source_name n)
unfolding names.source_name chars encode
source_is n = each_source (λ s. names.source_name s ≡ Some s) refl refl refl refl n

pub channel_is : (n : ℕ) → names.channel_name (made.channel_name n) ≡ Some (made.channel_name n)
unfolding names.channel_name chars encode
channel_is n = each_channel (λ c. names.channel_name c ≡ Some c) refl refl n

pub subscription_is : names.subscription_name made.subscription_name ≡ Some made.subscription_name
unfolding names.subscription_name chars encode
subscription_is = refl

pub word_is : is_xml_text (codes "x") ≡ true
unfolding chars
word_is = refl

-- an event of these parts, whatever shows that its word is one of XML
pub event_is : (c word : List ℕ) (characters : is_xml_text word ≡ true) (n : ℕ) → c ≡ made.channel_name n → word ≡ codes "x" →
    ◌≡◌ {A = PlainEvent} (record { channel = c; id = 1; level = 4; word = word; characters = characters }) (made.event_of n)
unfolding chars
event_is c word characters n channel is = subst Is (sym is) (λ shown i. record { channel = channel i; id = 1; level = 4; word = codes "x"; characters = Bool-set _ _ shown refl i }) characters
  where
    Is : List ℕ → Type 0
    Is w = (shown : is_xml_text w ≡ true) → ◌≡◌ {A = PlainEvent} (record { channel = c; id = 1; level = 4; word = w; characters = shown }) (made.event_of n)
