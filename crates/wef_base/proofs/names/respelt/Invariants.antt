use Rattle.std.proofs.Common.{◌≡◌, ◌++◌, drop, map, encode_utf8_all}
use Rattle.wef_base.specs.Names.{spelt}
use Rattle.wef_base.proofs.names.respelt.Given as goal

abbrev pub invariant-loop-character : goal.invariant-loop-character
invariant-loop-character l =
    l.text ++ encode_utf8_all (map (spelt l.letters) (drop l.character-index l.characters)) ≡ encode_utf8_all (map (spelt l.letters) l.characters)
