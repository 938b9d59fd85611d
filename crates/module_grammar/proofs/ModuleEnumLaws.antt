-- What the reader of modules holds through enums.
use Rattle.std.proofs.Common.{◌≡◌, ◌∙◌, ap, subst, refl, ℕ, List, [], ◌∷◌, ◌++◌, codes}
use Rattle.std.proofs.Common.{Option, Some, None}
use Rattle.std.proofs.lemmas.List.{append-nil}
use Rattle.mdl_lexer.specs.Kinds.{mark_word, name_word}
use Rattle.mdl_lexer.specs.declared.token.Token.{Token}
use Rattle.mdl_syntax.specs.declared.names.Ident.{Ident}
use Rattle.mdl_syntax.specs.Placed.{last_end}
use Rattle.mdl_syntax.specs.Modules.{Annotation, EnumValue, enumeration}
use Rattle.mdl_syntax.specs.WrittenModules.{write_enum_value}
use Rattle.mdl_syntax.specs.PlacedModules.{placed_enum_value}
use Rattle.expression_grammar.specs.inside.Machine.{Sort, identifier, integer, comma, semicolon, equals}
use Rattle.expression_grammar.specs.inside.Machine.{opening_bracket, opening_brace, closing_brace}
use Rattle.expression_grammar.specs.inside.Machine.{ident_at}
use Rattle.expression_grammar.specs.inside.Sorts.{IsOf}
use Rattle.expression_grammar.specs.inside.Sound.{place}
use Rattle.module_grammar.specs.inside.ModuleParts.{Part}
use Rattle.module_grammar.specs.inside.ModuleStates.{Begun, Named, Enum, an_enum, an_enum_value}
use Rattle.module_grammar.specs.inside.ModuleStates.{enum_named, value_wanted, value_read}
use Rattle.module_grammar.specs.inside.ModuleStates.{number_wanted, number_read, enum_closed}
use Rattle.module_grammar.specs.inside.ModuleMachine.{enum_annotated, enum_named_step, enum_from}
use Rattle.module_grammar.specs.inside.ModuleMachine.{value_wanted_step, value_ends, value_step}
use Rattle.module_grammar.specs.inside.ModuleMachine.{number_step}
use Rattle.module_grammar.specs.inside.ModuleStates.{with_value, enum_value_from}
use Rattle.module_grammar.specs.inside.ModuleMachine.{number_read_step, enum_closed_step}
use Rattle.module_grammar.specs.inside.ModuleStates.{place_of_declaration}
use Rattle.module_grammar.specs.inside.ModuleHolds.{PositionHolds, BegunStands, Then, Word}
use Rattle.module_grammar.specs.inside.ModuleHolds.{NamedStands, Annotated, EnumOpen, ValuesStand}
use Rattle.module_grammar.specs.inside.ModuleHolds.{AtLeastOne, NumberStands, AnnotationsEnd}
use Rattle.module_grammar.specs.inside.ModuleHolds.{BracesBegun}
use Rattle.expression_grammar.proofs.KindLaws.{last_end_append}
use Rattle.module_grammar.proofs.ModuleListLaws.{are_on}
use Rattle.module_grammar.proofs.ModuleJoinLaws.{OutcomeHolds, stays, then_more, then_with}
use Rattle.module_grammar.proofs.ModuleJoinLaws.{then_nothing}
use Rattle.module_grammar.proofs.ModuleJoinLaws.{behind_with, regroup, then_map, declares, open_more}
use Rattle.module_grammar.proofs.ModuleJoinLaws.{several_open}
use Rattle.module_grammar.proofs.ModulePartLaws.{enum_value_part, none_annotated, word_end}
use Rattle.module_grammar.proofs.ModuleWholeLaws.{Declares, enumeration_whole}
use Rattle.module_grammar.proofs.ModuleDeclareLaws.{begin_annotations, unannotated, word_holds}
use Rattle.module_grammar.proofs.ModuleDeclareLaws.{braces_are}

abbrev pub ValueStands : EnumValue → List Token → Type 0
ValueStands one tokens = Part write_enum_value placed_enum_value one tokens

pub enum_annotated_keeps : (begun : Begun) (named : Named) (annotations : Option (List Annotation))
    (sort : Sort) (token : Token) (before own : List Token) → IsOf sort token.kind →
    BegunStands begun before →
    Then (NamedStands (name_word (codes "enum")) named) (Annotated annotations) own →
    OutcomeHolds (enum_annotated begun named annotations sort) ((before ++ own) ++ token ∷ [])
enum_annotated_keeps begun named annotations opening_brace token before own is stands held =
    stays begun (value_wanted (enum_from named annotations)) before own token stands tt
    (then_nothing (own ++ token ∷ []) (behind_with (mark_word (codes "{")) own token held is))
enum_annotated_keeps begun named annotations _ token before own is stands held = tt

pub enum_named_keeps : (begun : Begun) (named : Named) (sort : Sort) (token : Token)
    (before own : List Token) → IsOf sort token.kind → BegunStands begun before →
    PositionHolds (enum_named named) own →
    OutcomeHolds (enum_named_step begun named sort) ((before ++ own) ++ token ∷ [])
enum_named_keeps begun named opening_bracket token before own is stands held =
    begin_annotations begun (an_enum named) before own token stands tt held is
enum_named_keeps begun named sort token before own is stands held =
    enum_annotated_keeps begun named None sort token before own is stands (unannotated own held)

pub value_wanted_keeps : (begun : Begun) (held : Enum) (sort : Sort) (token : Token)
    (before own : List Token) → IsOf sort token.kind → BegunStands begun before →
    PositionHolds (value_wanted held) own →
    OutcomeHolds (value_wanted_step begun held sort (place token)) ((before ++ own) ++ token ∷ [])
value_wanted_keeps begun held (identifier text) token before own is stands stand =
    stays begun (value_read held (ident_at text (place token))) before own token stands tt
    (then_with own (token ∷ []) stand (word_holds text token is))
value_wanted_keeps begun held _ token before own is stands stand = tt

pub value_ends_keeps : (begun : Begun) (held : Enum) (one : EnumValue) (sort : Sort) (token : Token)
    (before own : List Token) → IsOf sort token.kind → BegunStands begun before →
    Then (EnumOpen held) (ValueStands one) own →
    OutcomeHolds (value_ends begun held one sort) ((before ++ own) ++ token ∷ [])
value_ends_keeps begun held one sort token before own is stands stand =
    by sort is (then_map own (regroup own stand)
    (λ back both. subst (AtLeastOne ValuesStand (held.values ++ one ∷ [])) both.are
    (several_open write_enum_value placed_enum_value held.values one both.front both.back both.one
    both.other)))
  where
    by : (sort : Sort) → IsOf sort token.kind →
        Then (BracesBegun (name_word (codes "enum")) held.named held.annotations)
        (AtLeastOne ValuesStand (held.values ++ one ∷ [])) own →
        OutcomeHolds (value_ends begun held one sort) ((before ++ own) ++ token ∷ [])
    by comma is stand =
        stays begun (value_wanted (with_value held one)) before own token stands tt
        (then_more own (token ∷ []) stand
        (λ back some. open_more ValuesStand (held.values ++ one ∷ []) back token some is))
    by closing_brace is stand =
        stays begun (enum_closed (with_value held one)) before own token stands tt
        (behind_with (mark_word (codes "}")) own token
        (then_map own stand (λ back some. some.stand)) is)
    by _ is stand = tt

plain_value : (name : Ident) (tokens : List Token) → Word name tokens →
    ValueStands (enum_value_from name None None name.span.end) tokens
plain_value name tokens held =
    subst (ValueStands (enum_value_from name None None name.span.end)) (append-nil tokens)
    (enum_value_part name None None name.span.end tokens [] [] held refl none_annotated
    (ap (last_end 0) (append-nil tokens) ∙ word_end name tokens 0 held))

pub value_keeps : (begun : Begun) (held : Enum) (name : Ident) (sort : Sort) (token : Token)
    (before own : List Token) → IsOf sort token.kind → BegunStands begun before →
    PositionHolds (value_read held name) own →
    OutcomeHolds (value_step begun held name sort) ((before ++ own) ++ token ∷ [])
value_keeps begun held name equals token before own is stands stand =
    stays begun (number_wanted held name) before own token stands tt
    (then_more own (token ∷ []) stand
    (λ back one. behind_with (mark_word (codes "=")) back token one is))
value_keeps begun held name opening_bracket token before own is stands stand =
    begin_annotations begun (an_enum_value held name None) before own token stands tt
    (then_map own stand (λ back one. then_nothing back one)) is
value_keeps begun held name sort token before own is stands stand =
    value_ends_keeps begun held (enum_value_from name None None name.span.end) sort token before own
    is stands (then_map own stand (λ back one. plain_value name back one))

pub number_keeps : (begun : Begun) (held : Enum) (name : Ident) (sort : Sort) (token : Token)
    (before own : List Token) → IsOf sort token.kind → BegunStands begun before →
    PositionHolds (number_wanted held name) own →
    OutcomeHolds (number_step begun held name sort (place token)) ((before ++ own) ++ token ∷ [])
number_keeps begun held name (integer value) token before own is stands stand =
    stays begun (number_read held name value token.end) before own token stands tt
    (then_more own (token ∷ []) stand
    (λ back one. record {
      holds = record {
        front = one.front;
        back = one.last ∷ token ∷ [];
        one = one.one;
        other = record {
          equals = one.last;
          number = token;
          is = one.is;
          number_is = is;
          are = refl;
        };
        are = are_on one.front (one.last ∷ []) back (token ∷ []) one.are;
      };
      ends = last_end_append 0 back (token ∷ []);
    }))
number_keeps begun held name _ token before own is stands stand = tt

pub number_read_keeps : (begun : Begun) (held : Enum) (name : Ident) (value end : ℕ) (sort : Sort)
    (token : Token) (before own : List Token) → IsOf sort token.kind → BegunStands begun before →
    PositionHolds (number_read held name value end) own →
    OutcomeHolds (number_read_step begun held name value end sort) ((before ++ own) ++ token ∷ [])
number_read_keeps begun held name value end opening_bracket token before own is stands stand =
    begin_annotations begun (an_enum_value held name (Some value)) before own token stands tt
    (then_map own stand (λ back one. one.holds)) is
number_read_keeps begun held name value end sort token before own is stands stand =
    value_ends_keeps begun held (enum_value_from name (Some value) None end) sort token before own is
    stands (then_map own stand
    (λ back one. let two = one.holds in
    let same : two.front ++ (two.back ++ []) ≡ back =
    ap (λ t. two.front ++ t) (append-nil two.back) ∙ two.are in
    subst (ValueStands (enum_value_from name (Some value) None end)) same
    (enum_value_part name (Some value) None end two.front two.back [] two.one two.other
    none_annotated (ap (last_end 0) same ∙ one.ends))))

-- a value with annotations
pub annotated_value : (name : Ident) (number : Option ℕ) (annotations : List Annotation) (end : ℕ)
    (tokens : List Token) →
    Then (Then (Word name) (NumberStands number)) (AnnotationsEnd annotations end) tokens →
    ValueStands (enum_value_from name number (Some annotations) end) tokens
annotated_value name number annotations end tokens held =
    let both = regroup tokens held in
    let back = both.other in
    subst (ValueStands (enum_value_from name number (Some annotations) end))
    (ap (λ b. both.front ++ b) back.are ∙ both.are)
    (enum_value_part name number (Some annotations) end both.front back.front back.back both.one
    back.one back.other.stand
    (last_end_append 0 both.front (back.front ++ back.back)
    ∙ (last_end_append (last_end 0 both.front) back.front back.back
    ∙ back.other.ends (last_end (last_end 0 both.front) back.front))))

pub enum_closed_keeps : (begun : Begun) (held : Enum) (sort : Sort) (token : Token)
    (before own : List Token) → IsOf sort token.kind → BegunStands begun before →
    PositionHolds (enum_closed held) own →
    OutcomeHolds (enum_closed_step begun held sort (place token)) ((before ++ own) ++ token ∷ [])
enum_closed_keeps begun held semicolon token before own is stands stand =
    let s = stand.one in
    let b = s.one in
    let f = b.one in
    let n = f.one in
    let k = n.one in
    let one = enumeration held.named.exported held.named.name held.annotations held.values
    (place_of_declaration held.named token.end) in
    declares begun one before own token stands
    (subst (Declares one)
    (braces_are k.exports k.begin n.front n.back f.front f.back b.front b.last s.front s.back
    stand.front stand.last token own k.are n.are f.are b.are s.are stand.are)
    (enumeration_whole held.named held.annotations held.values k.exports n.back f.back s.back k.begin
    b.last stand.last token k.exporting k.is n.other k.first f.other b.is s.other stand.is is))
enum_closed_keeps begun held _ token before own is stands stand = tt
