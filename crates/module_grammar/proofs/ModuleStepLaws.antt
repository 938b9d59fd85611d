-- Steps of the machine of modules on the sorts that their default arms are for.
use Rattle.std.proofs.Common.{◌≡◌, refl, ℕ, Some, None, List, [], ◌∷◌, ◌++◌, map}
use Rattle.mdl_syntax.specs.declared.names.Ident.{Ident}
use Rattle.expression_grammar.specs.declared.sort.Sort as words
use Rattle.expression_grammar.specs.declared.sort.Sort.TheVariants as sort
use Rattle.module_grammar.specs.inside.ModuleMachine.{value_step, number_read_step, value_ends}
use Rattle.module_grammar.specs.inside.ModuleStates.{Begun, Enum}
use Rattle.module_grammar.specs.inside.ModuleMachine.{variant_step, variant_annotated}
use Rattle.module_grammar.specs.inside.ModuleStates.{enum_value_from, Fronted}
use Rattle.module_grammar.specs.inside.ModuleMachine.{parameter_step, parameter_ends}
use Rattle.module_grammar.specs.inside.ModuleStates.{Owner, Front, plain_parameter}
use Rattle.mdl_syntax.specs.Modules.{Parameter, parameter_of, declaration_of}
use Rattle.mdl_syntax.specs.declared.declarations.Decl.{Decl}
use Rattle.mdl_syntax.specs.declared.declarations.Param.{Param}
use Rattle.std.proofs.lemmas.List.{map-append}
use Rattle.expression_grammar.specs.inside.SortViews.{sort_view}

pub value_otherwise : (begun : Begun) (held : Enum) (name : Ident) (word : words.Sort) →
    (word ≡ sort.Equals → ⊥) → (word ≡ sort.OpeningBracket → ⊥) →
    value_step begun held name (sort_view word)
    ≡ value_ends begun held (enum_value_from name None None name.span.end) (sort_view word)
value_otherwise begun held name sort.Equals one other = absurd (one refl)
value_otherwise begun held name sort.OpeningBracket one other = absurd (other refl)
value_otherwise begun held name _ one other = refl

pub number_otherwise : (begun : Begun) (held : Enum) (name : Ident) (value end : ℕ) (word : words.Sort) →
    (word ≡ sort.OpeningBracket → ⊥) →
    number_read_step begun held name value end (sort_view word)
    ≡ value_ends begun held (enum_value_from name (Some value) None end) (sort_view word)
number_otherwise begun held name value end sort.OpeningBracket other = absurd (other refl)
number_otherwise begun held name value end _ other = refl

pub variant_otherwise : (begun : Begun) (fronted : Fronted) (word : words.Sort) →
    (word ≡ sort.OpeningBracket → ⊥) →
    variant_step begun fronted (sort_view word) ≡ variant_annotated begun fronted None (sort_view word)
variant_otherwise begun fronted sort.OpeningBracket other = absurd (other refl)
variant_otherwise begun fronted _ other = refl

pub parameter_otherwise : (begun : Begun) (owner : Owner) (parameters : List Parameter) (front : Front)
    (word : words.Sort) → (word ≡ sort.Equals → ⊥) → (word ≡ sort.OpeningBracket → ⊥) →
    parameter_step begun owner parameters front (sort_view word)
    ≡ parameter_ends begun owner (parameters ++ plain_parameter front None ∷ []) (sort_view word)
parameter_otherwise begun owner parameters front sort.Equals one other = absurd (one refl)
parameter_otherwise begun owner parameters front sort.OpeningBracket one other = absurd (other refl)
parameter_otherwise begun owner parameters front _ one other = refl

-- parameters with one more
pub longer_parameters : (parameters : List Param) (one : Param) →
    map parameter_of (parameters ++ one ∷ []) ≡ map parameter_of parameters ++ parameter_of one ∷ []
longer_parameters parameters one = map-append parameter_of parameters (one ∷ [])

-- declarations with one more
pub longer_declarations : (declarations : List Decl) (one : Decl) →
    map declaration_of (declarations ++ one ∷ []) ≡ map declaration_of declarations ++ declaration_of one ∷ []
longer_declarations declarations one = map-append declaration_of declarations (one ∷ [])
