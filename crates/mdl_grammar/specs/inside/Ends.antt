-- What the end of an expression comes to, without the expression.
use Rattle.std.specs.Prelude.{Bool, true, false, List, [], ◌∷◌, if◌then◌else◌}
use Rattle.mdl_grammar.specs.declared.ends.End.{End}
use Rattle.mdl_grammar.specs.declared.ends.End.TheVariants as end
use Rattle.expression_grammar.specs.inside.Machine.{Frame, Finish, finished, ends_badly, ends_deep, is_tight}

-- whether all frames end with the operand before the end
abbrev pub all_tight : List Frame → Bool
all_tight [] = true
all_tight (frame ∷ frames) = if is_tight 0 frame then all_tight frames else false

abbrev pub end_kind : Finish → End
end_kind (finished tree) = end.Whole
end_kind ends_badly = end.Bad
end_kind ends_deep = end.Deep

abbrev pub tight_end : List Frame → End
tight_end frames = if all_tight frames then end.Whole else end.Bad
