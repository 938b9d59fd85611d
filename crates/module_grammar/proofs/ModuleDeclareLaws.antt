-- What the reader of modules holds where declarations begin, and through structs.
use Rattle.std.proofs.Common.{◌≡◌, ◌∙◌, sym, ap, subst, refl, ℕ, Bool, true, false, List, [], ◌∷◌}
use Rattle.std.proofs.Common.{◌++◌, codes, Option, Some, None}
use Rattle.std.proofs.lemmas.List.{append_assoc, append-nil}
use Rattle.mdl_lexer.specs.Kinds.{mark_word, name_word}
use Rattle.mdl_lexer.specs.declared.token.Kind.{Kind}
use Rattle.mdl_lexer.specs.declared.token.Kind.TheVariants as kind
use Rattle.mdl_lexer.specs.declared.token.Token.{Token}
use Rattle.mdl_syntax.specs.Placed.{last_end}
use Rattle.mdl_syntax.specs.Trees.{Tree}
use Rattle.mdl_syntax.specs.Modules.{Annotation, Parameter, structure}
use Rattle.mdl_syntax.specs.WrittenModules.{export_words, write_field}
use Rattle.mdl_syntax.specs.PlacedModules.{placed_parameter}
use Rattle.expression_grammar.specs.Readings.{kinds}
use Rattle.expression_grammar.specs.inside.Machine.{Sort, Mode, identifier, import_word, using_word}
use Rattle.expression_grammar.specs.inside.Machine.{module_word}
use Rattle.expression_grammar.specs.inside.Machine.{export_word, struct_word, enum_word, annotation_word}
use Rattle.expression_grammar.specs.inside.Machine.{semicolon, equals, opening_bracket, opening_brace}
use Rattle.expression_grammar.specs.inside.Machine.{closing_brace, ident_at, type_step, head_step}
use Rattle.expression_grammar.specs.inside.Machine.{mode_step, wanted, opening}
use Rattle.expression_grammar.specs.inside.Sorts.{IsOf}
use Rattle.expression_grammar.specs.inside.Sound.{place, nothing, is_wanted}
use Rattle.module_grammar.specs.inside.ModuleParts.{First, Each}
use Rattle.module_grammar.specs.inside.ModuleStates.{Outcome, Begun, Named, Front, Struct, Kin}
use Rattle.module_grammar.specs.inside.ModuleStates.{struct_kin}
use Rattle.module_grammar.specs.inside.ModuleStates.{enum_kin, annotation_kin, Holder, a_struct}
use Rattle.module_grammar.specs.inside.ModuleStates.{a_field}
use Rattle.module_grammar.specs.inside.ModuleStates.{Fronting, of_declaration, of_parameter, of_field}
use Rattle.module_grammar.specs.inside.ModuleStates.{Owner, of_annotation, within, item_wanted}
use Rattle.module_grammar.specs.inside.ModuleStates.{importing, using, own_wanted, exported_read}
use Rattle.module_grammar.specs.inside.ModuleStates.{unnamed}
use Rattle.module_grammar.specs.inside.ModuleStates.{kin_named, annotation_named, struct_named}
use Rattle.module_grammar.specs.inside.ModuleStates.{enum_named}
use Rattle.module_grammar.specs.inside.ModuleStates.{parameters_begun, fields_read, field_read}
use Rattle.module_grammar.specs.inside.ModuleStates.{struct_closed, annotations_begun, expression}
use Rattle.module_grammar.specs.inside.ModuleMachine.{declaration_step, item_step}
use Rattle.module_grammar.specs.inside.ModuleStates.{in_field_default}
use Rattle.module_grammar.specs.inside.ModuleMachine.{exported_step, kin_step, annotation_named_step}
use Rattle.module_grammar.specs.inside.ModuleMachine.{front_step, first_front_step, typed_step}
use Rattle.module_grammar.specs.inside.ModuleMachine.{no_frequency, struct_annotated}
use Rattle.module_grammar.specs.inside.ModuleMachine.{struct_named_step}
use Rattle.module_grammar.specs.inside.ModuleMachine.{struct_from, fields_step, field_ends, field_step}
use Rattle.module_grammar.specs.inside.ModuleStates.{with_field, plain_parameter, parameter_from}
use Rattle.module_grammar.specs.inside.ModuleMachine.{struct_closed_step}
use Rattle.module_grammar.specs.inside.ModuleStates.{place_of_declaration}
use Rattle.module_grammar.specs.inside.ModuleHolds.{ModuleHolds, PositionHolds, BegunStands, EarlyIf}
use Rattle.module_grammar.specs.inside.ModuleHolds.{EarlyHolder, HolderStands, FrontBase}
use Rattle.module_grammar.specs.inside.ModuleHolds.{FrontingHolds}
use Rattle.module_grammar.specs.inside.ModuleHolds.{HeadOf, Then, Word, NamedStands}
use Rattle.module_grammar.specs.inside.ModuleHolds.{Annotated, StructStands, FrontStands}
use Rattle.module_grammar.specs.inside.ModuleHolds.{ValueStands, AnnotationsEnd, HoldsBehind, KinBegun}
use Rattle.expression_grammar.proofs.KindLaws.{last_end_append}
use Rattle.expression_grammar.proofs.LetLaws.{head_keeps, type_first_keeps}
use Rattle.expression_grammar.proofs.SoundLaws.{by_mode}
use Rattle.module_grammar.proofs.ModuleListLaws.{are_on, no_part_each, one_more_each}
use Rattle.module_grammar.proofs.ModuleJoinLaws.{OutcomeHolds, stays, then_more, then_with}
use Rattle.module_grammar.proofs.ModuleJoinLaws.{then_nothing}
use Rattle.module_grammar.proofs.ModuleJoinLaws.{behind_with, regroup, then_map, declares}
use Rattle.module_grammar.proofs.ModulePartLaws.{ParameterHolds, parameter_holds, plain_holds}
use Rattle.module_grammar.proofs.ModulePartLaws.{field_part}
use Rattle.module_grammar.proofs.ModulePartLaws.{none_annotated}
use Rattle.module_grammar.proofs.ModuleWholeLaws.{Declares, structure_whole}
use Rattle.module_grammar.proofs.ModuleFrontLaws.{front_outcome_keeps, mode_in, type_in, head_in}
use Rattle.module_grammar.proofs.ModuleFrontLaws.{base_longer}

-- the tokens behind an item's, in other words
pub moved_own : (outcome : Outcome) (before other own : List Token) (token : Token) →
    other ≡ own ++ token ∷ [] → OutcomeHolds outcome (before ++ other) →
    OutcomeHolds outcome ((before ++ own) ++ token ∷ [])
moved_own outcome before other own token same holds =
    subst (OutcomeHolds outcome) (ap (λ t. before ++ t) same
    ∙ sym (append_assoc before own (token ∷ []))) holds

pub begin_annotations : (begun : Begun) (holder : Holder) (before own : List Token)
    (token : Token) → BegunStands begun before → EarlyHolder holder begun →
    HolderStands holder own → token.kind ≡ mark_word (codes "[") →
    ModuleHolds (within begun (annotations_begun holder)) ((before ++ own) ++ token ∷ [])
begin_annotations begun holder before own token stands early held is =
    stays begun (annotations_begun holder) before own token stands early
    (then_with own (token ∷ []) held (record { token = token; is = is; are = refl }))

pub word_holds : (text : List ℕ) (token : Token) → token.kind ≡ kind.Word text →
    Word (ident_at text (place token)) (token ∷ [])
word_holds text token is = record {
  token = token;
  text = text;
  is = is;
  names = refl;
  are = refl;
}

-- `=` before an expression
pub begins_behind : (token : Token) → token.kind ≡ mark_word (codes "=") →
    HoldsBehind wanted [] (token ∷ [])
begins_behind token is = record {
  equals = token;
  own = [];
  is = is;
  holds = is_wanted [] [] nothing;
  are = refl;
}

-- Types and names.

pub fronting_keeps : (limit number : ℕ) (begun : Begun) (of : Fronting) (mode : Mode) (sort : Sort)
    (token : Token) (before own : List Token) → IsOf sort token.kind → BegunStands begun before →
    FrontingHolds of mode own →
    OutcomeHolds (front_step limit number begun of mode sort (place token))
    ((before ++ own) ++ token ∷ [])
fronting_keeps limit number begun of mode sort token before own is stands held =
    moved_own (front_step limit number begun of mode sort (place token)) before
    (held.front ++ (held.back ++ token ∷ [])) own token
    (are_on held.front held.back own (token ∷ []) held.are)
    (front_outcome_keeps number begun of (mode_step limit mode [] sort (place token)) before
    held.front (held.back ++ token ∷ []) stands
    (base_longer of held.front held.back (token ∷ []) held.base)
    (by_mode limit mode [] held.back sort token is held.holds)
    (mode_in (HeadOf of) limit mode sort (place token) held.form))

pub field_front_keeps : (number : ℕ) (begun : Begun) (held : Struct) (sort : Sort) (token : Token)
    (before own : List Token) → IsOf sort token.kind → BegunStands begun before →
    StructStands held own →
    OutcomeHolds (first_front_step number begun (of_field held) sort (place token))
    ((before ++ own) ++ token ∷ [])
field_front_keeps number begun held sort token before own is stands stand =
    moved_own (first_front_step number begun (of_field held) sort (place token)) before
    (own ++ token ∷ []) own token refl
    (front_outcome_keeps number begun (of_field held) (head_step [] sort (place token)) before own
    (token ∷ []) stands stand (head_keeps sort token [] [] is nothing)
    (head_in (HeadOf (of_field held)) sort (place token) (λ head. tt)))

pub parameter_front_keeps : (number : ℕ) (begun : Begun) (owner : Owner)
    (parameters : List Parameter) (sort : Sort) (token : Token) (before own : List Token) →
    IsOf sort token.kind → BegunStands begun before →
    FrontBase (of_parameter owner parameters) own (token ∷ []) →
    OutcomeHolds (first_front_step number begun (of_parameter owner parameters) sort (place token))
    ((before ++ own) ++ token ∷ [])
parameter_front_keeps number begun owner parameters sort token before own is stands stand =
    moved_own (first_front_step number begun (of_parameter owner parameters) sort (place token))
    before (own ++ token ∷ []) own token refl
    (front_outcome_keeps number begun (of_parameter owner parameters)
    (head_step [] sort (place token)) before own (token ∷ []) stands stand
    (head_keeps sort token [] [] is nothing)
    (head_in (HeadOf (of_parameter owner parameters)) sort (place token) (λ head. tt)))

-- Where a declaration begins.

kin_begins : (begun : Begun) (at : ℕ) (exported : Bool) (kin : Kin) (word : Kind) (token : Token)
    (before own : List Token) → BegunStands begun before → export_words exported ≡ kinds own →
    First at (own ++ token ∷ []) → token.kind ≡ word →
    PositionHolds (kin_named at exported kin) ≡ KinBegun word at exported →
    ModuleHolds (within begun (kin_named at exported kin)) ((before ++ own) ++ token ∷ [])
kin_begins begun at exported kin word token before own stands exporting first is same =
    stays begun (kin_named at exported kin) before own token stands tt
    (subst (λ (P : List Token → Type 0). P (own ++ token ∷ [])) (sym same) (record {
      exports = own;
      begin = token;
      exporting = exporting;
      is = is;
      first = first;
      are = refl;
    }))

declaration_keeps : (number : ℕ) (begun : Begun) (at : ℕ) (exported : Bool) (sort : Sort)
    (token : Token) (before own : List Token) → IsOf sort token.kind → BegunStands begun before →
    export_words exported ≡ kinds own → First at (own ++ token ∷ []) →
    OutcomeHolds (declaration_step number begun at exported sort (place token))
    ((before ++ own) ++ token ∷ [])
declaration_keeps number begun at exported struct_word token before own is stands exporting first =
    kin_begins begun at exported struct_kin (name_word (codes "struct")) token before own stands
    exporting first is refl
declaration_keeps number begun at exported enum_word token before own is stands exporting first =
    kin_begins begun at exported enum_kin (name_word (codes "enum")) token before own stands
    exporting first is refl
declaration_keeps number begun at exported annotation_word token before own is stands exporting
    first =
    kin_begins begun at exported annotation_kin (name_word (codes "annotation")) token before own
    stands exporting first is refl
declaration_keeps number begun at exported sort token before own is stands exporting first =
    moved_own (typed_step number begun at exported sort (place token)) before (own ++ token ∷ []) own
    token refl
    (front_outcome_keeps number begun (of_declaration at exported)
    (type_step (no_frequency token.at) [] sort (place token)) before own (token ∷ []) stands
    (exporting, first) (type_first_keeps sort token [] [] is nothing)
    (type_in (HeadOf (of_declaration at exported)) (no_frequency token.at) sort (place token) refl))

item_begins : (number : ℕ) (begun : Begun) (early : Bool) (sort : Sort) (token : Token)
    (before : List Token) → IsOf sort token.kind → BegunStands begun before →
    EarlyIf early begun →
    OutcomeHolds (item_step number begun early sort (place token)) ((before ++ []) ++ token ∷ [])
item_begins number begun true import_word token before is stands early =
    stays begun (importing token.at [] unnamed) before [] token stands early
    (then_nothing (token ∷ []) (then_nothing (token ∷ [])
    (record { token = token; is = is; here = refl; are = refl })))
item_begins number begun true using_word token before is stands early =
    stays begun (using token.at unnamed) before [] token stands early
    (then_nothing (token ∷ []) (record { token = token; is = is; here = refl; are = refl }))
item_begins number begun true module_word token before is stands early =
    stays begun own_wanted before [] token stands early
    (record { token = token; is = is; are = refl })
item_begins number begun early export_word token before is stands held =
    stays begun (exported_read token.at) before [] token stands tt
    (record { token = token; is = is; here = refl; are = refl })
item_begins number begun early sort token before is stands held =
    declaration_keeps number begun token.at false sort token before [] is stands refl refl

pub item_keeps : (number : ℕ) (begun : Begun) (early : Bool) (sort : Sort) (token : Token)
    (before own : List Token) → IsOf sort token.kind → BegunStands begun before →
    EarlyIf early begun → PositionHolds (item_wanted early) own →
    OutcomeHolds (item_step number begun early sort (place token)) ((before ++ own) ++ token ∷ [])
item_keeps number begun early sort token before own is stands held none =
    subst (λ o. OutcomeHolds (item_step number begun early sort (place token))
    ((before ++ o) ++ token ∷ [])) (sym none)
    (item_begins number begun early sort token before is stands held)

pub exported_keeps : (number : ℕ) (begun : Begun) (at : ℕ) (sort : Sort) (token : Token)
    (before own : List Token) → IsOf sort token.kind → BegunStands begun before →
    PositionHolds (exported_read at) own →
    OutcomeHolds (exported_step number begun at sort (place token)) ((before ++ own) ++ token ∷ [])
exported_keeps number begun at using_word token before own is stands held = tt
exported_keeps number begun at sort token before own is stands held =
    declaration_keeps number begun at true sort token before own is stands
    ((λ i. sym held.is i ∷ []) ∙ ap kinds held.are)
    (subst (λ t. First at (t ++ token ∷ [])) held.are held.here)

pub kin_keeps : (begun : Begun) (at : ℕ) (exported : Bool) (kin : Kin) (sort : Sort) (token : Token)
    (before own : List Token) → IsOf sort token.kind → BegunStands begun before →
    PositionHolds (kin_named at exported kin) own →
    OutcomeHolds (kin_step begun at exported kin sort (place token)) ((before ++ own) ++ token ∷ [])
kin_keeps begun at exported struct_kin (identifier text) token before own is stands held =
    stays begun (struct_named (record {
      at = at;
      exported = exported;
      name = ident_at text
          (place token);
    })) before own token stands tt
    (then_with own (token ∷ []) held (word_holds text token is))
kin_keeps begun at exported enum_kin (identifier text) token before own is stands held =
    stays begun (enum_named (record {
      at = at;
      exported = exported;
      name = ident_at text
          (place token);
    })) before own token stands tt
    (then_with own (token ∷ []) held (word_holds text token is))
kin_keeps begun at exported annotation_kin (identifier text) token before own is stands held =
    stays begun (annotation_named (record {
      at = at;
      exported = exported;
      name = ident_at text
          (place token);
    })) before own token stands tt
    (then_with own (token ∷ []) held (word_holds text token is))
kin_keeps begun at exported kin _ token before own is stands held = tt

pub annotation_named_keeps : (begun : Begun) (named : Named) (sort : Sort) (token : Token)
    (before own : List Token) → IsOf sort token.kind → BegunStands begun before →
    PositionHolds (annotation_named named) own →
    OutcomeHolds (annotation_named_step begun named sort) ((before ++ own) ++ token ∷ [])
annotation_named_keeps begun named opening token before own is stands held =
    stays begun (parameters_begun (of_annotation named)) before own token stands tt
    (behind_with (mark_word (codes "(")) own token held is)
annotation_named_keeps begun named _ token before own is stands held = tt

-- Structs.

-- without annotations
pub unannotated : {One : List Token → Type 0} (tokens : List Token) → One tokens →
    Then One (Annotated None) tokens
unannotated tokens one = record {
  front = tokens;
  back = [];
  one = one;
  other = none_annotated;
  are = append-nil tokens;
}

pub struct_annotated_keeps : (begun : Begun) (named : Named)
    (annotations : Option (List Annotation)) (sort : Sort) (token : Token)
    (before own : List Token) → IsOf sort token.kind → BegunStands begun before →
    Then (NamedStands (name_word (codes "struct")) named) (Annotated annotations) own →
    OutcomeHolds (struct_annotated begun named annotations sort) ((before ++ own) ++ token ∷ [])
struct_annotated_keeps begun named annotations opening_brace token before own is stands held =
    stays begun (fields_read (struct_from named annotations)) before own token stands tt (record {
      front = own ++ token ∷ [];
      back = [];
      one = behind_with (mark_word (codes "{")) own token held is;
      other = no_part_each write_field placed_parameter;
      are = append-nil (own ++ token ∷ []);
    })
struct_annotated_keeps begun named annotations _ token before own is stands held = tt

pub struct_named_keeps : (begun : Begun) (named : Named) (sort : Sort) (token : Token)
    (before own : List Token) → IsOf sort token.kind → BegunStands begun before →
    PositionHolds (struct_named named) own →
    OutcomeHolds (struct_named_step begun named sort) ((before ++ own) ++ token ∷ [])
struct_named_keeps begun named opening_bracket token before own is stands held =
    begin_annotations begun (a_struct named) before own token stands tt held is
struct_named_keeps begun named sort token before own is stands held =
    struct_annotated_keeps begun named None sort token before own is stands (unannotated own held)

pub fields_keeps : (number : ℕ) (begun : Begun) (held : Struct) (sort : Sort) (token : Token)
    (before own : List Token) → IsOf sort token.kind → BegunStands begun before →
    PositionHolds (fields_read held) own →
    OutcomeHolds (fields_step number begun held sort (place token)) ((before ++ own) ++ token ∷ [])
fields_keeps number begun held closing_brace token before own is stands stand =
    stays begun (struct_closed held) before own token stands tt
    (behind_with (mark_word (codes "}")) own token stand is)
fields_keeps number begun held sort token before own is stands stand =
    field_front_keeps number begun held sort token before own is stands stand

pub field_ends_keeps : (begun : Begun) (held : Struct) (one : Parameter) (sort : Sort)
    (token : Token) (before own : List Token) → IsOf sort token.kind → BegunStands begun before →
    Then (StructStands held) (ParameterHolds one) own →
    OutcomeHolds (field_ends begun held one sort) ((before ++ own) ++ token ∷ [])
field_ends_keeps begun held one semicolon token before own is stands stand =
    stays begun (fields_read (with_field held one)) before own token stands tt
    (then_more own (token ∷ []) (regroup own stand)
    (λ back both. subst (Each write_field placed_parameter (held.fields ++ one ∷ []))
    (are_on both.front both.back back (token ∷ []) both.are)
    (one_more_each write_field placed_parameter held.fields one both.front (both.back ++ token ∷ [])
    both.one (field_part one both.back token both.other is))))
field_ends_keeps begun held one _ token before own is stands stand = tt

pub plain_front : (front : Front) (tokens : List Token) → FrontStands front tokens →
    ParameterHolds (plain_parameter front None) tokens
plain_front front tokens held =
    subst (ParameterHolds (plain_parameter front None)) (append-nil tokens)
    (plain_holds front None tokens [] held refl)

pub annotated_parameter : (front : Front) (default : Option Tree) (annotations : List Annotation)
    (end : ℕ) (tokens : List Token) →
    Then (Then (FrontStands front) (ValueStands default)) (AnnotationsEnd annotations end) tokens →
    ParameterHolds (parameter_from front default (Some annotations) end) tokens
annotated_parameter front default annotations end tokens held =
    let both = regroup tokens held in
    let back = both.other in
    subst (ParameterHolds (parameter_from front default (Some annotations) end))
    (ap (λ b. both.front ++ b) back.are ∙ both.are)
    (parameter_holds front default (Some annotations) end both.front back.front back.back both.one
    back.one back.other.stand
    (λ at is. last_end_append at back.front back.back ∙ back.other.ends (last_end at back.front)))

pub field_keeps : (begun : Begun) (held : Struct) (front : Front) (sort : Sort) (token : Token)
    (before own : List Token) → IsOf sort token.kind → BegunStands begun before →
    PositionHolds (field_read held front) own →
    OutcomeHolds (field_step begun held front sort) ((before ++ own) ++ token ∷ [])
field_keeps begun held front equals token before own is stands stand =
    stays begun (expression (in_field_default held front) wanted []) before own token stands tt
    (then_more own (token ∷ []) stand
    (λ back one. then_with back (token ∷ []) one (begins_behind token is)))
field_keeps begun held front opening_bracket token before own is stands stand =
    begin_annotations begun (a_field held front None) before own token stands tt
    (then_map own stand (λ back one. then_nothing back one)) is
field_keeps begun held front sort token before own is stands stand =
    field_ends_keeps begun held (plain_parameter front None) sort token before own is stands
    (then_map own stand (λ back one. plain_front front back one))

braces_lists : (exports : List Token) (begin : Token) (ns a : List Token) (brace : Token)
    (fs : List Token) (close last : Token) →
    exports ++ begin ∷ (ns ++ (a ++ brace ∷ (fs ++ close ∷ last ∷ [])))
    ≡ ((((((exports ++ begin ∷ []) ++ ns) ++ a) ++ brace ∷ []) ++ fs) ++ close ∷ []) ++ last ∷ []
braces_lists exports begin ns a brace fs close last = simp (append_assoc)

pub braces_are : (exports : List Token) (begin : Token) (k ns n a f : List Token) (brace : Token)
    (b fs s : List Token) (close last : Token) (own : List Token) → exports ++ begin ∷ [] ≡ k →
    k ++ ns ≡ n → n ++ a ≡ f → f ++ brace ∷ [] ≡ b → b ++ fs ≡ s → s ++ close ∷ [] ≡ own →
    exports ++ begin ∷ (ns ++ (a ++ brace ∷ (fs ++ close ∷ last ∷ []))) ≡ own ++ last ∷ []
braces_are exports begin k ns n a f brace b fs s close last own one two three four five six =
    braces_lists exports begin ns a brace fs close last
    ∙ (ap (λ t. (((((t ++ ns) ++ a) ++ brace ∷ []) ++ fs) ++ close ∷ []) ++ last ∷ []) one
    ∙ (ap (λ t. ((((t ++ a) ++ brace ∷ []) ++ fs) ++ close ∷ []) ++ last ∷ []) two
    ∙ (ap (λ t. (((t ++ brace ∷ []) ++ fs) ++ close ∷ []) ++ last ∷ []) three
    ∙ (ap (λ t. ((t ++ fs) ++ close ∷ []) ++ last ∷ []) four
    ∙ (ap (λ t. (t ++ close ∷ []) ++ last ∷ []) five ∙ ap (λ t. t ++ last ∷ []) six)))))

pub struct_closed_keeps : (begun : Begun) (held : Struct) (sort : Sort) (token : Token)
    (before own : List Token) → IsOf sort token.kind → BegunStands begun before →
    PositionHolds (struct_closed held) own →
    OutcomeHolds (struct_closed_step begun held sort (place token)) ((before ++ own) ++ token ∷ [])
struct_closed_keeps begun held semicolon token before own is stands stand =
    let s = stand.one in
    let b = s.one in
    let f = b.one in
    let n = f.one in
    let k = n.one in
    let one = structure held.named.exported held.named.name held.annotations held.fields
    (place_of_declaration held.named token.end) in
    declares begun one before own token stands
    (subst (Declares one)
    (braces_are k.exports k.begin n.front n.back f.front f.back b.front b.last s.front s.back
    stand.front stand.last token own k.are n.are f.are b.are s.are stand.are)
    (structure_whole held.named held.annotations held.fields k.exports n.back f.back s.back k.begin
    b.last stand.last token k.exporting k.is n.other k.first f.other b.is s.other stand.is is))
struct_closed_keeps begun held _ token before own is stands stand = tt
