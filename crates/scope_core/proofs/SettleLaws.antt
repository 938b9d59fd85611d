-- Laws of what entities take.
use Rattle.std.proofs.Common.{◌≡◌, ◌∷◌, ◌||◌, [], List, map, refl, ap}
use Rattle.std.specs.List.{list_any}
use Rattle.mdl_syntax.specs.declared.declarations.Param.{Param}
use Rattle.mdl_syntax.specs.Modules.{parameter_of}
use Rattle.scope_tables.specs.Entities.{parameter_types}
use Rattle.scope_tables.specs.Types.{is_deferred, has_deferred}

-- sizes are deferred in the program's trees where they are in those of the definitions
pub deferred-of : (params : List Param)
    → list_any (λ (param : Param). is_deferred param.ty.size) params
    ≡ has_deferred (parameter_types (map parameter_of params))
deferred-of [] = refl
deferred-of (param ∷ params) = ap (λ b. is_deferred param.ty.size || b) (deferred-of params)
