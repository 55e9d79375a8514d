-- The address of a source is read as that of its name, whatever colons and digits the name has.
use Rattle.std.proofs.Common.{◌≡◌, ℕ, ◌-◌, Bool, true, false, ◌||◌, cond, List, [], ◌∷◌, ◌++◌, length, take, encode_utf8_all, refl, ap, sym, ◌∙◌, subst, arith}
use Rattle.std.proofs.lemmas.Bool.{and_from}
use Rattle.std.proofs.lemmas.List.{length-append}
use Rattle.std.specs.List.{list_any}
use Rattle.std.specs.Prelude.{codes}
use Rattle.std.specs.Str.{chars}
use Rattle.wef_base.specs.Names.{source_name}
use Rattle.wef_base.specs.Numbers.{is_numeral}
use Rattle.wef_documents.proofs.TrimmedTexts.{IsTrim, ported_characters, ported_is, trim_allowed, trim_stays, trimmed_is}
use Rattle.wef_documents.specs.Addresses.{before_last, behind_last, has_port, is_colon, machine_of, usual_port}
use Rattle.wef_documents.specs.Laws.{HasXmlAddress, IsPlainSource}
use Rattle.wef_eventing.specs.declared.subscriptions.SourceAt.{SourceAt}
use Rattle.wef_front_source.proofs.SourceNames.{allowed_source, trimmed_source}
use Rattle.wef_machine.specs.States.{address_of}
use Rattle.wef_replay.specs.Good.{is_source}
use Rattle.wef_safety.proofs.Offering.{reads_source}

-- ---- characters with the port behind them

colon_there : (cs : List ℕ) → list_any is_colon (cs ++ usual_port) ≡ true
colon_there [] = refl
colon_there (c ∷ cs) = either (is_colon c) (list_any is_colon (cs ++ usual_port)) (colon_there cs)
  where
    either : (b d : Bool) → d ≡ true → (b || d) ≡ true
    either true d e = refl
    either false d e = e

behind_port : (cs : List ℕ) → behind_last (cs ++ usual_port) ≡ codes "5985"
behind_port [] = refl
behind_port (c ∷ cs) =
    ap (λ (b : Bool). cond b (behind_last (cs ++ usual_port)) (cond (is_colon c) (cs ++ usual_port) (c ∷ (cs ++ usual_port)))) (colon_there cs) ∙ behind_port cs

port_there : (cs : List ℕ) → has_port (cs ++ usual_port) ≡ true
port_there cs = and_from _ _ (colon_there cs) (ap (λ ds. is_numeral ds) (behind_port cs))

front_taken : (cs ds : List ℕ) → take (length cs) (cs ++ ds) ≡ cs
front_taken [] ds = refl
front_taken (c ∷ cs) ds = ap (λ xs. c ∷ xs) (front_taken cs ds)

front_length : (cs : List ℕ) → length (cs ++ usual_port) - 4 - 1 ≡ length cs
front_length cs = let whole = length-append cs usual_port in omega arith

before_port : (cs : List ℕ) → before_last (cs ++ usual_port) ≡ cs
before_port cs =
    ap (λ ds. take (length (cs ++ usual_port) - length ds - 1) (cs ++ usual_port)) (behind_port cs)
    ∙ ap (λ n. take n (cs ++ usual_port)) (front_length cs)
    ∙ front_taken cs usual_port

-- ---- a source

-- a name such as a reader gives has no spaces at its ends
trim_name : (s : List ℕ) → is_source s ≡ true → IsTrim s
trim_name s good =
    let name = reads_source s good in
    subst IsTrim (trimmed_source s name.0 name.1) (trimmed_is s (allowed_source s name.0 name.1))

-- the source of a name, where sources of that name are found
abbrev pub source_called : List ℕ → SourceAt
source_called s = record { name = s; address = address_of s }

-- it reads back from its address
pub called_plain : (s : List ℕ) → is_source s ≡ true → IsPlainSource (source_called s)
called_plain s good =
    let is = trim_name s good in
    let cs = is.characters in
    let read : chars (address_of s) ≡ cs ++ usual_port = ported_characters s is in
    let port : has_port (chars (address_of s)) ≡ true = ap has_port read ∙ port_there cs in
    let machine : machine_of (address_of s) ≡ s =
    (λ i. cond (port i) (encode_utf8_all (before_last (read i))) (address_of s)) ∙ ap encode_utf8_all (before_port cs) ∙ sym is.spelt in
    record {
      address = trim_stays (address_of s) (ported_is s is);
      port = port;
      name = ap source_name machine ∙ (reads_source s good).1;
    }

-- and its address is of what XML allows
pub called_allowed : (s : List ℕ) → is_source s ≡ true → HasXmlAddress (source_called s)
called_allowed s good = trim_allowed (address_of s) (ported_is s (trim_name s good))
