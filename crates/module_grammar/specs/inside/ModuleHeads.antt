-- The head of a function in which a state stands.
use Rattle.std.specs.Prelude.{◌≡◌, ℕ, suc, ◌<◌, Bool, List, Option, Some, None, codes, length, slice_get}
use Rattle.mdl_lexer.specs.declared.token.Token.{Token}
use Rattle.mdl_lexer.specs.Kinds.{mark_word}
use Rattle.expression_grammar.specs.Readings.{kinds}
use Rattle.module_grammar.specs.inside.ModuleStates.{Position, Holder, Site, Owner, Fronted, State, within}
use Rattle.module_grammar.specs.inside.ModuleStates.{item_wanted}
use Rattle.module_grammar.specs.inside.ModuleStates.{of_function, a_parameter, a_function, a_variant, in_function_body}
use Rattle.module_grammar.specs.inside.ModuleStates.{in_default, in_annotation, in_base, of_parameter, fronting}
use Rattle.module_grammar.specs.inside.ModuleStates.{declared}
use Rattle.module_grammar.specs.inside.ModuleStates.{parameters_begun, star_read, variant_read, base_read}
use Rattle.module_grammar.specs.inside.ModuleStates.{parameter_read}
use Rattle.module_grammar.specs.inside.ModuleStates.{parameter_next, function_read, annotations_begun}
use Rattle.module_grammar.specs.inside.ModuleStates.{first_annotation}
use Rattle.module_grammar.specs.inside.ModuleStates.{annotation_read, annotations_closing, annotated, expression}
use Rattle.module_grammar.specs.inside.ModuleStates.{opened}
use Rattle.module_grammar.specs.inside.ModuleLeads.{IsWholeAt}

abbrev pub fronted_of_owner : Owner → Option Fronted
fronted_of_owner (of_function fronted) = Some fronted
fronted_of_owner owner = None

abbrev pub fronted_of_holder : Holder → Option Fronted
fronted_of_holder (a_parameter owner parameters front default) = fronted_of_owner owner
fronted_of_holder (a_function fronted parameters frequency) = Some fronted
fronted_of_holder (a_variant fronted) = Some fronted
fronted_of_holder holder = None

abbrev pub fronted_of_site : Site → Option Fronted
fronted_of_site (in_function_body fronted parameters frequency annotations) = Some fronted
fronted_of_site (in_default owner parameters front) = fronted_of_owner owner
fronted_of_site (in_annotation holder annotations) = fronted_of_holder holder
fronted_of_site (in_base fronted annotations) = Some fronted
fronted_of_site site = None

abbrev pub fronted_in : Position → Option Fronted
fronted_in (fronting (of_parameter owner parameters) mode) = fronted_of_owner owner
fronted_in (declared fronted) = Some fronted
fronted_in (parameters_begun owner) = fronted_of_owner owner
fronted_in (star_read fronted) = Some fronted
fronted_in (variant_read fronted) = Some fronted
fronted_in (base_read fronted annotations one) = Some fronted
fronted_in (parameter_read owner parameters front) = fronted_of_owner owner
fronted_in (parameter_next owner parameters) = fronted_of_owner owner
fronted_in (function_read fronted parameters frequency) = Some fronted
fronted_in (annotations_begun holder) = fronted_of_holder holder
fronted_in (first_annotation holder) = fronted_of_holder holder
fronted_in (annotation_read holder annotations) = fronted_of_holder holder
fronted_in (annotations_closing holder annotations) = fronted_of_holder holder
fronted_in (annotated holder annotations end) = fronted_of_holder holder
fronted_in (expression site mode frames) = fronted_of_site site
fronted_in (opened site mode frames bracket) = fronted_of_site site
fronted_in position = None

abbrev pub deferred_of : Option Fronted → Option ℕ
deferred_of None = None
deferred_of (Some fronted) = fronted.deferred

-- the place of the first size of a parameter that is deferred in the head, if one is
abbrev pub size_in : State → Option ℕ
size_in (within begun position) = deferred_of (fronted_in position)
size_in state = None

-- the state stands behind a whole head of a function
abbrev pub IsHead : State → Type 0
IsHead (within begun (function_read fronted parameters frequency)) = Unit {0}
IsHead (within begun (annotated (a_function fronted parameters frequency) annotations end)) = Unit {0}
IsHead state = ⊥

abbrev pub IsItem : State → Type 0
IsItem (within begun (item_wanted early)) = Unit {0}
IsItem state = ⊥

-- a size that is deferred stands at this place, and no module is whole behind it
pub record SizeStands (strict : Bool) (limit : ℕ) (tokens : List Token) (at : ℕ) : Type 0 where
  pub before : ℕ
  pub behind : at ≡ suc before
  pub within_them : at < length tokens
  pub bracket : slice_get (kinds tokens) before ≡ Some (mark_word (codes "["))
  pub there : slice_get (kinds tokens) at ≡ Some (mark_word (codes "<"))
  pub last : (whole : ℕ) → at < whole → IsWholeAt strict limit tokens whole → ⊥
