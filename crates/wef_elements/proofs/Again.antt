-- What is made of elements and texts has these elements and texts again.
use Rattle.std.proofs.Common.{◌≡◌, ℕ, suc, ◌==◌, Bool, true, false, not, ◌||◌, cond, List, [], ◌∷◌, length, refl, ap, ◌∙◌, arith, append-nil}
use Rattle.std.specs.Prelude.{Some, None}
use Rattle.std.specs.List.{cons_option, flat_map, list_all}
use Rattle.std.proofs.lemmas.Bool.Decides.{nat_tests}
use Rattle.wef_base.specs.Names.{is_space, trimmed}
use Rattle.wef_base.specs.declared.tree.Element.{Element}
use Rattle.wef_base.specs.declared.tree.Node.{Chars, Node-F}
use Rattle.wef_base.specs.declared.tree.Node.TheVariants.{Element as Child, outs-Chars, outs-Element}
use Rattle.wef_elements.specs.Children.{as_nodes, element_of, elements_in, has_words, is_words, with_text}
use Rattle.wef_elements.specs.Texts.{only_text, said_in, text_in}

pub child_is : (e : Element) → element_of (Child e) ≡ Some e
child_is e = ap (λ o. elim o [ Node-F.Element x ↦ Some x | Node-F.Chars text ↦ None ]) (outs-Element e)

no_words : (e : Element) → is_words (Child e) ≡ false
no_words e = ap (λ o. elim o [ Node-F.Element x ↦ false | Node-F.Chars text ↦ not (list_all is_space text) ]) (outs-Element e)

pub elements_again : (es : List Element) → elements_in (as_nodes es) ≡ es
elements_again [] = refl
elements_again (e ∷ es) = λ i. cons_option (child_is e i) (elements_again es i)

pub wordless : (es : List Element) → has_words (as_nodes es) ≡ false
wordless [] = refl
wordless (e ∷ es) = λ i. no_words e i || wordless es i

pub text_again : (text : List ℕ) → flat_map text_in (only_text text) ≡ text
text_again [] = refl
text_again (c ∷ cs) = let more : (suc (length cs) == 0) ≡ false = grind (arith, nat_tests) in rw more (append-nil (c ∷ cs))

-- an element that has a text without spaces at both ends says it
pub said_again : (space name text : List ℕ) → trimmed text ≡ text → said_in (with_text space name text) ≡ text
said_again space name text is = ap trimmed (text_again text) ∙ is

no_child : (text : List ℕ) → ◌≡◌ {A = List Element} (elements_in (Chars text ∷ [])) []
no_child text = ap (λ o. cons_option (elim o [ Node-F.Element x ↦ Some x | Node-F.Chars more ↦ None ]) []) (outs-Chars text)

-- a text holds no element
pub none_inside : (text : List ℕ) → ◌≡◌ {A = List Element} (elements_in (only_text text)) []
none_inside text = by (length text == 0)
  where
    by : (b : Bool) → ◌≡◌ {A = List Element} (elements_in (cond b [] (Chars text ∷ []))) []
    by true = refl
    by false = no_child text
