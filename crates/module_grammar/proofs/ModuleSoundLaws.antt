-- A state of the reader of modules holds the tokens that lead to it, and a whole module stands for them.
use Rattle.std.proofs.Common.{◌≡◌, ◌∙◌, sym, ap, subst, refl, ℕ, Bool, List, [], ◌∷◌}
use Rattle.std.proofs.Common.{◌++◌}
use Rattle.std.proofs.Common.{arith, length, codes, Option, Some, None}
use Rattle.std.proofs.lemmas.List.{append-nil, length-append}
use Rattle.mdl_lexer.specs.Kinds.{mark_word, name_word}
use Rattle.mdl_lexer.specs.declared.token.Kind.{Kind}
use Rattle.mdl_lexer.specs.declared.token.Kind.TheVariants as kind
use Rattle.mdl_lexer.specs.declared.token.Token.{Token}
use Rattle.mdl_syntax.specs.declared.expressions.Lit.TheVariants as lit
use Rattle.mdl_syntax.specs.Placed.{behind, last_end}
use Rattle.mdl_syntax.specs.Modules.{ModuleTree, Annotation}
use Rattle.mdl_syntax.specs.WrittenModules.{write_import, write_own, write_declaration}
use Rattle.mdl_syntax.specs.WrittenModules.{write_module}
use Rattle.mdl_syntax.specs.WrittenModules.{write_each, write_several, write_annotation}
use Rattle.mdl_syntax.specs.PlacedModules.{placed_import, placed_own, placed_declaration}
use Rattle.mdl_syntax.specs.PlacedModules.{placed_module, placed_each, placed_annotation}
use Rattle.expression_grammar.specs.Readings.{kinds}
use Rattle.expression_grammar.specs.inside.Machine.{Sort, sort_of, from_to, other_literal, semicolon}
use Rattle.expression_grammar.specs.inside.Machine.{mdl_word}
use Rattle.expression_grammar.specs.inside.Machine.{left_out}
use Rattle.expression_grammar.specs.inside.Sorts.{IsOf}
use Rattle.expression_grammar.specs.inside.Sound.{place}
use Rattle.module_grammar.specs.inside.ModuleParts.{Part, Each}
use Rattle.module_grammar.specs.inside.ModuleStates.{Begun, Position, State, on}
use Rattle.module_grammar.specs.inside.ModuleStates.{mdl_wanted, version_wanted, version_read, within}
use Rattle.module_grammar.specs.inside.ModuleStates.{item_wanted, importing, imported, using}
use Rattle.module_grammar.specs.inside.ModuleStates.{used_wanted}
use Rattle.module_grammar.specs.inside.ModuleStates.{used_read, used_next, used_all, own_wanted}
use Rattle.module_grammar.specs.inside.ModuleStates.{annotations_begun, first_annotation}
use Rattle.module_grammar.specs.inside.ModuleStates.{annotation_read, annotations_closing, annotated}
use Rattle.module_grammar.specs.inside.ModuleStates.{exported_read, kin_named, annotation_named}
use Rattle.module_grammar.specs.inside.ModuleStates.{fronting}
use Rattle.module_grammar.specs.inside.ModuleStates.{declared, parameters_begun, star_read}
use Rattle.module_grammar.specs.inside.ModuleStates.{variant_read}
use Rattle.module_grammar.specs.inside.ModuleStates.{base_read, parameter_read, parameter_next}
use Rattle.module_grammar.specs.inside.ModuleStates.{function_read, annotation_declared, struct_named}
use Rattle.module_grammar.specs.inside.ModuleStates.{fields_read, field_read, enum_named}
use Rattle.module_grammar.specs.inside.ModuleStates.{value_wanted}
use Rattle.module_grammar.specs.inside.ModuleStates.{value_read, number_wanted, number_read}
use Rattle.module_grammar.specs.inside.ModuleStates.{struct_closed, enum_closed, expression, opened}
use Rattle.module_grammar.specs.inside.ModuleStates.{in_function_body, in_default, in_field_default}
use Rattle.module_grammar.specs.inside.ModuleMachine.{position_step}
use Rattle.module_grammar.specs.inside.ModuleStates.{in_annotation, in_base}
use Rattle.module_grammar.specs.inside.ModuleMachine.{state_step}
use Rattle.module_grammar.specs.inside.ModuleMachine.{module_sort_step, module_step}
use Rattle.module_grammar.specs.inside.ModuleHolds.{ModuleHolds, PositionHolds, EarlyAt}
use Rattle.module_grammar.specs.inside.ModuleHolds.{BegunStands, At}
use Rattle.expression_grammar.proofs.KindLaws.{kinds_append, length_kinds, behind_front, last_end_append}
use Rattle.expression_grammar.proofs.SortLaws.{is_of_sort}
use Rattle.module_grammar.proofs.ModuleListLaws.{no_part_each, several_front, first_place, each_kept}
use Rattle.module_grammar.proofs.ModuleJoinLaws.{OutcomeHolds}
use Rattle.module_grammar.proofs.ModuleImportLaws.{import_keeps, imported_keeps}
use Rattle.module_grammar.proofs.ModuleUsingLaws.{using_keeps, used_wanted_keeps, used_read_keeps}
use Rattle.module_grammar.proofs.ModuleUsingLaws.{used_next_keeps, used_all_keeps}
use Rattle.module_grammar.proofs.ModuleAnnotationLaws.{own_keeps, second_keeps, annotation_read_keeps}
use Rattle.module_grammar.proofs.ModuleAnnotationLaws.{closing_keeps, annotated_keeps}
use Rattle.module_grammar.proofs.ModuleDeclareLaws.{item_keeps, exported_keeps, kin_keeps}
use Rattle.module_grammar.proofs.ModuleDeclareLaws.{annotation_named_keeps, fronting_keeps}
use Rattle.module_grammar.proofs.ModuleDeclareLaws.{parameter_front_keeps, struct_named_keeps}
use Rattle.module_grammar.proofs.ModuleDeclareLaws.{fields_keeps, field_keeps, struct_closed_keeps}
use Rattle.module_grammar.proofs.ModuleParameterLaws.{declared_keeps, parameters_keeps}
use Rattle.module_grammar.proofs.ModuleParameterLaws.{parameter_keeps}
use Rattle.module_grammar.proofs.ModuleParameterLaws.{annotation_declared_keeps, function_keeps}
use Rattle.module_grammar.proofs.ModuleParameterLaws.{star_read_keeps, variant_keeps, base_keeps}
use Rattle.module_grammar.proofs.ModuleEnumLaws.{enum_named_keeps, value_wanted_keeps, value_keeps}
use Rattle.module_grammar.proofs.ModuleEnumLaws.{number_keeps, number_read_keeps, enum_closed_keeps}
use Rattle.module_grammar.proofs.ModuleValueLaws as values
use Rattle.module_grammar.proofs.ModuleCallLaws.{FormsKeep, annotation_call_keeps, base_call_keeps}
use Rattle.module_grammar.proofs.ModuleCallLaws.{first_annotation_keeps}

position_keeps : FormsKeep → (limit number : ℕ) (begun : Begun) (position : Position) (sort : Sort)
    (token : Token) (before own : List Token) → IsOf sort token.kind → BegunStands begun before →
    EarlyAt position begun → PositionHolds position own →
    OutcomeHolds (position_step limit number begun position sort (place token))
    ((before ++ own) ++ token ∷ [])
position_keeps forms limit number begun (item_wanted early) sort token before own is stands first held =
    item_keeps number begun early sort token before own is stands first held
position_keeps forms limit number begun (importing at items naming) sort token before own is stands
    first held = import_keeps begun at items naming sort token before own is stands first held
position_keeps forms limit number begun (imported at items) sort token before own is stands first
    held = imported_keeps begun at items sort token before own is stands first held
position_keeps forms limit number begun (using at naming) sort token before own is stands first held =
    using_keeps begun at naming sort token before own is stands first held
position_keeps forms limit number begun (used_wanted at name) sort token before own is stands first
    held = used_wanted_keeps begun at name sort token before own is stands first held
position_keeps forms limit number begun (used_read at name names) sort token before own is stands
    first held = used_read_keeps begun at name names sort token before own is stands first held
position_keeps forms limit number begun (used_next at name names) sort token before own is stands
    first held = used_next_keeps begun at name names sort token before own is stands first held
position_keeps forms limit number begun (used_all at name) sort token before own is stands first held =
    used_all_keeps begun at name sort token before own is stands first held
position_keeps forms limit number begun own_wanted sort token before own is stands first held =
    own_keeps begun sort token before own is stands first held
position_keeps forms limit number begun (annotations_begun holder) sort token before own is stands
    first held = second_keeps begun holder sort token before own is stands first held
position_keeps forms limit number begun (first_annotation holder) sort token before own is stands
    first held = first_annotation_keeps forms limit begun holder sort token before own is stands first
    held
position_keeps forms limit number begun (annotation_read holder annotations) sort token before own is
    stands first held =
    annotation_read_keeps begun holder annotations sort token before own is stands first held
position_keeps forms limit number begun (annotations_closing holder annotations) sort token before own
    is stands first held =
    closing_keeps begun holder annotations sort token before own is stands first held
position_keeps forms limit number begun (annotated holder annotations end) sort token before own is
    stands first held =
    annotated_keeps begun holder annotations end sort token before own is stands first held
position_keeps forms limit number begun (exported_read at) sort token before own is stands first held =
    exported_keeps number begun at sort token before own is stands held
position_keeps forms limit number begun (kin_named at exported kin) sort token before own is stands
    first held = kin_keeps begun at exported kin sort token before own is stands held
position_keeps forms limit number begun (annotation_named named) sort token before own is stands first
    held = annotation_named_keeps begun named sort token before own is stands held
position_keeps forms limit number begun (fronting of mode) sort token before own is stands first held =
    fronting_keeps limit number begun of mode sort token before own is stands held
position_keeps forms limit number begun (declared fronted) sort token before own is stands first held =
    declared_keeps begun fronted sort token before own is stands held
position_keeps forms limit number begun (parameters_begun owner) sort token before own is stands first
    held = parameters_keeps number begun owner sort token before own is stands held
position_keeps forms limit number begun (star_read fronted) sort token before own is stands first
    held = star_read_keeps begun fronted sort token before own is stands held
position_keeps forms limit number begun (variant_read fronted) sort token before own is stands first
    held = variant_keeps begun fronted sort token before own is stands held
position_keeps forms limit number begun (base_read fronted annotations base) sort token before own is
    stands first held =
    base_keeps begun fronted annotations base sort token before own is stands held
position_keeps forms limit number begun (parameter_read owner parameters front) sort token before own
    is stands first held =
    parameter_keeps begun owner parameters front sort token before own is stands held
position_keeps forms limit number begun (parameter_next owner parameters) sort token before own is
    stands first held =
    parameter_front_keeps number begun owner parameters sort token before own is stands held
position_keeps forms limit number begun (function_read fronted parameters frequency) sort token before
    own is stands first held =
    function_keeps begun fronted parameters frequency sort token before own is stands held
position_keeps forms limit number begun (annotation_declared named parameters) sort token before own
    is stands first held =
    annotation_declared_keeps begun named parameters sort token before own is stands held
position_keeps forms limit number begun (struct_named named) sort token before own is stands first
    held = struct_named_keeps begun named sort token before own is stands held
position_keeps forms limit number begun (fields_read struct) sort token before own is stands first
    held = fields_keeps number begun struct sort token before own is stands held
position_keeps forms limit number begun (field_read struct front) sort token before own is stands
    first held = field_keeps begun struct front sort token before own is stands held
position_keeps forms limit number begun (enum_named named) sort token before own is stands first held =
    enum_named_keeps begun named sort token before own is stands held
position_keeps forms limit number begun (value_wanted enum) sort token before own is stands first
    held = value_wanted_keeps begun enum sort token before own is stands held
position_keeps forms limit number begun (value_read enum name) sort token before own is stands first
    held = value_keeps begun enum name sort token before own is stands held
position_keeps forms limit number begun (number_wanted enum name) sort token before own is stands
    first held = number_keeps begun enum name sort token before own is stands held
position_keeps forms limit number begun (number_read enum name value end) sort token before own is
    stands first held =
    number_read_keeps begun enum name value end sort token before own is stands held
position_keeps forms limit number begun (struct_closed struct) sort token before own is stands first
    held = struct_closed_keeps begun struct sort token before own is stands held
position_keeps forms limit number begun (enum_closed enum) sort token before own is stands first held =
    enum_closed_keeps begun enum sort token before own is stands held
position_keeps forms limit number begun
    (expression (in_function_body fronted parameters frequency annotations) mode frames) sort token
    before own is stands first held =
    values.value_keeps limit begun (in_function_body fronted parameters frequency annotations) mode
    frames sort token before own is tt stands held
position_keeps forms limit number begun (expression (in_default owner parameters front) mode frames)
    sort token before own is stands first held =
    values.value_keeps limit begun (in_default owner parameters front) mode frames sort token before
    own is tt stands held
position_keeps forms limit number begun (expression (in_field_default struct front) mode frames) sort
    token before own is stands first held =
    values.value_keeps limit begun (in_field_default struct front) mode frames sort token before own
    is tt stands held
position_keeps forms limit number begun (expression (in_annotation holder annotations) mode frames)
    sort token before own is stands first held =
    annotation_call_keeps forms limit begun holder annotations mode frames sort token before own is
    stands first held
position_keeps forms limit number begun (expression (in_base fronted annotations) mode frames) sort
    token before own is stands first held =
    base_call_keeps forms limit begun fronted annotations mode frames sort token before own is stands
    held
position_keeps forms limit number begun (opened site mode frames bracket) sort token before own is
    stands first held =
    values.opened_keeps limit begun site mode frames bracket sort token before own is stands held

-- The version.

version_keeps : (at : ℕ) (text : List ℕ) (double : Bool) (token : Token) (tokens : List Token) →
    token.kind ≡ kind.Real text double → At (name_word (codes "mdl")) at tokens →
    OutcomeHolds (on (version_read at (record {
      text = text;
      double = double;
      span = place token;
    }))) (tokens ++ token ∷ [])
version_keeps at text double token tokens is held = record {
  word = held.token;
  number = token;
  is = held.is;
  here = held.here;
  number_is = is;
  number_here = refl;
  are = ap (λ t. t ++ token ∷ []) held.are;
}

state_keeps : FormsKeep → (limit number : ℕ) (state : State) (sort : Sort) (token : Token)
    (tokens : List Token) → IsOf sort token.kind → ModuleHolds state tokens →
    OutcomeHolds (state_step limit number state sort (place token)) (tokens ++ token ∷ [])
state_keeps forms limit number mdl_wanted mdl_word token tokens is none = record {
  token = token;
  is = is;
  here = refl;
  are = ap (λ t. t ++ token ∷ []) (sym none);
}
state_keeps forms limit number mdl_wanted sort token tokens is none = tt
state_keeps forms limit number (version_wanted at) (other_literal (lit.Real text double)) token tokens
    is held = version_keeps at text double token tokens is held
state_keeps forms limit number (version_wanted at) sort token tokens is held = tt
state_keeps forms limit number (version_read at version) semicolon token tokens is held = record {
  before = tokens ++ token ∷ [];
  own = [];
  stands = record {
    front = tokens ++ token ∷ [];
    imports = [];
    owns = [];
    declarations = [];
    version = record { front = tokens; last = token; one = held; is = is; are = refl };
    imports_stand = no_part_each write_import placed_import;
    owns_stand = record { writes = refl; places = refl };
    declarations_stand = no_part_each write_declaration placed_declaration;
    ends = ap (last_end 0) (append-nil (tokens ++ token ∷ []))
        ∙ last_end_append 0 tokens (token ∷ []);
    are = append-nil (tokens ++ token ∷ []);
  };
  early = record { annotations = refl; declarations = refl };
  holds = refl;
  are = append-nil (tokens ++ token ∷ []);
}
state_keeps forms limit number (version_read at version) sort token tokens is held = tt
state_keeps forms limit number (within begun position) sort token tokens is held =
    subst (λ t. OutcomeHolds (position_step limit number begun position sort (place token))
    (t ++ token ∷ [])) held.are
    (position_keeps forms limit number begun position sort token held.before held.own is held.stands
    held.early held.holds)

sort_keeps : (limit number : ℕ) (state : State) (sort : Sort) (token : Token)
    (tokens : List Token) →
    OutcomeHolds (state_step limit number state sort (place token)) tokens →
    OutcomeHolds (module_sort_step limit number state sort (place token)) tokens
sort_keeps limit number state (left_out text) token tokens holds = tt
sort_keeps limit number state sort token tokens holds = holds

-- what the reader goes on to holds again
pub step_keeps : FormsKeep → (limit number : ℕ) (state : State) (tokens : List Token)
    (token : Token) → ModuleHolds state tokens →
    OutcomeHolds (module_step limit number state token) (tokens ++ token ∷ [])
step_keeps forms limit number state tokens token holds =
    let sort = sort_of token.kind in
    sort_keeps limit number state sort token (tokens ++ token ∷ [])
    (state_keeps forms limit number state sort token tokens (is_of_sort token.kind) holds)

-- Whole modules.

-- the module as it is read at the end
abbrev pub whole_module : Begun → ModuleTree
whole_module begun = record {
  version = begun.version;
  imports = begun.imports;
  annotations = begun.annotations;
  declarations = begun.declarations;
  span = from_to begun.at begun.end;
}

module_core : (begun : Begun) (word number mark : Token) (imports owns declarations : List Token) →
    word.kind ≡ name_word (codes "mdl") → begun.at ≡ word.at →
    number.kind ≡ kind.Real begun.version.text begun.version.double →
    begun.version.span ≡ place number → mark.kind ≡ mark_word (codes ";") →
    Each write_import placed_import begun.imports imports →
    Part write_own placed_own begun.annotations owns →
    ((rest : List Token) → placed_own begun.annotations (owns ++ rest) ≡ begun.annotations) →
    Each write_declaration placed_declaration begun.declarations declarations →
    last_end 0 (word ∷ number ∷ mark ∷ (imports ++ (owns ++ declarations))) ≡ begun.end →
    Part write_module placed_module (whole_module begun)
    (word ∷ number ∷ mark ∷ (imports ++ (owns ++ declarations)))
module_core begun word number mark imports owns declarations is here number_is number_here mark_is
    imports_are owned kept declares ends = record {
      writes = (λ i. sym is i ∷ sym number_is i ∷ sym mark_is i ∷ (imports_are.writes i
          ++ (owned.writes i ++ declares.writes i)))
          ∙ (ap (λ k. word.kind ∷ number.kind ∷ mark.kind ∷ (kinds imports ++ k))
          (sym (kinds_append owns declarations))
          ∙ ap (λ k. word.kind ∷ number.kind ∷ mark.kind ∷ k)
          (sym (kinds_append imports (owns ++ declarations))));
      places = λ i. record {
        version = record {
          text = begun.version.text;
          double = begun.version.double;
          span = sym number_here i;
        };
        imports = each_kept write_import placed_import begun.imports imports (owns ++ declarations)
            imports_are i;
        annotations = (ap (placed_own begun.annotations) at_own ∙ kept declarations) i;
        declarations = (ap (λ t. placed_each write_declaration placed_declaration 0
            begun.declarations (behind (write_own begun.annotations) 0 t)) at_own
            ∙ (ap (placed_each write_declaration placed_declaration 0 begun.declarations)
            (behind_front (write_own begun.annotations) 0 owns declarations owned.writes)
            ∙ declares.places)) i;
        span = (first_place begun.at (word ∷ number ∷ mark ∷ (imports ++ (owns ++ declarations)))
            here ∙ ap (from_to begun.at) ends) i;
      };
    }
  where
    at_own : behind (write_each write_import begun.imports) 0 (imports ++ (owns ++ declarations))
        ≡ owns ++ declarations
    at_own = behind_front (write_each write_import begun.imports) 0 imports (owns ++ declarations)
        imports_are.writes

own_kept : (annotations : Option (List Annotation)) (tokens rest : List Token) →
    Part write_own placed_own annotations tokens →
    placed_own annotations (tokens ++ rest) ≡ annotations
own_kept None tokens rest held = refl
own_kept (Some annotations) tokens rest held =
    by tokens (length_kinds (write_own (Some annotations)) tokens held.writes) held.places
  where
    words : List Kind
    words = write_several write_annotation annotations

    by : (tokens : List Token) → length (write_own (Some annotations)) ≡ length tokens →
        placed_own (Some annotations) tokens ≡ Some annotations →
        placed_own (Some annotations) (tokens ++ rest) ≡ Some annotations
    by [] long places = absurd (omega (arith, long))
    by (one ∷ []) long places = absurd (omega (arith, long))
    by (one ∷ two ∷ []) long places = absurd (omega (arith, long))
    by (one ∷ two ∷ three ∷ tokens) long places =
        ap Some (several_front write_annotation placed_annotation annotations tokens rest
        (omega (
          arith,
          long,
          length-append words (mark_word (codes "]") ∷ mark_word (codes "]")
              ∷ []),
          length-append (words ++ mark_word (codes "]") ∷ mark_word (codes "]") ∷ [])
              (mark_word (codes ";") ∷ []),
        ))) ∙ places

-- the whole module stands for the tokens that lead to its end
pub module_stands : (begun : Begun) (early : Bool) (tokens : List Token) →
    ModuleHolds (within begun (item_wanted early)) tokens →
    Part write_module placed_module (whole_module begun) tokens
module_stands begun early tokens held =
    let s = held.stands in
    let v = s.version in
    let start = v.one in
    let fronts : start.word ∷ start.number ∷ v.last ∷ [] ≡ s.front =
    ap (λ t. t ++ v.last ∷ []) start.are ∙ v.are in
    let all : start.word ∷ start.number ∷ v.last ∷ (s.imports ++ (s.owns ++ s.declarations))
    ≡ s.front ++ (s.imports ++ (s.owns ++ s.declarations)) =
    ap (λ t. t ++ (s.imports ++ (s.owns ++ s.declarations))) fronts in
    let ended : held.before ≡ tokens =
    sym (append-nil held.before) ∙ (ap (λ o. held.before ++ o) (sym held.holds) ∙ held.are) in
    subst (Part write_module placed_module (whole_module begun)) (all ∙ (s.are ∙ ended))
    (module_core begun start.word start.number v.last s.imports s.owns s.declarations start.is
    start.here start.number_is start.number_here v.is s.imports_stand s.owns_stand
    (λ rest. own_kept begun.annotations s.owns rest s.owns_stand) s.declarations_stand
    (ap (last_end 0) all ∙ s.ends))
