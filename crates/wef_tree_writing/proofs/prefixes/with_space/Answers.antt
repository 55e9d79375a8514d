use Rattle.wef_tree_writing.proofs.prefixes.with_space.Goals as goal

pub needs_prefix-requires : goal.needs_prefix-requires
needs_prefix-requires c = λ told. let found = c.requires told in (found.0, found.1, found.3)

pub contains-requires : goal.contains-requires
contains-requires c = λ told. let found = c.requires told in (found.0, found.2, found.3)
