-- What the reader of modules holds through parameters, and behind them.
use Rattle.std.proofs.Common.{◌≡◌, ◌∙◌, sym, ap, subst, refl, ℕ, List, [], ◌∷◌, ◌++◌, codes}
use Rattle.std.proofs.Common.{Option, Some, None}
use Rattle.std.proofs.lemmas.List.{append_assoc, append-nil}
use Rattle.mdl_lexer.specs.Kinds.{mark_word}
use Rattle.mdl_lexer.specs.declared.token.Token.{Token}
use Rattle.mdl_syntax.specs.declared.types.Freq.{Freq}
use Rattle.mdl_syntax.specs.Trees.{Tree}
use Rattle.mdl_syntax.specs.Modules.{Annotation, Parameter, annotation}
use Rattle.mdl_syntax.specs.WrittenModules.{write_parameter}
use Rattle.mdl_syntax.specs.PlacedModules.{placed_parameter}
use Rattle.expression_grammar.specs.inside.Machine.{Sort, comma, closing, opening, opening_bracket, equals}
use Rattle.expression_grammar.specs.inside.Machine.{semicolon, binary_operator, frequency_word, wanted}
use Rattle.expression_grammar.specs.inside.Machine.{opening_brace}
use Rattle.expression_grammar.specs.inside.Sorts.{IsOf}
use Rattle.expression_grammar.specs.inside.Sound.{place}
use Rattle.module_grammar.specs.inside.ModuleStates.{Begun, Named, Fronted, Front, Owner, of_function}
use Rattle.module_grammar.specs.inside.ModuleStates.{of_annotation, on, within}
use Rattle.module_grammar.specs.inside.ModuleStates.{parameter_next, parameters_begun, parameter_read}
use Rattle.module_grammar.specs.inside.ModuleStates.{function_read, annotation_declared, star_read}
use Rattle.module_grammar.specs.inside.ModuleStates.{variant_read, base_read, declared, expression}
use Rattle.module_grammar.specs.inside.ModuleStates.{in_default, in_base, in_function_body}
use Rattle.module_grammar.specs.inside.ModuleStates.{a_parameter}
use Rattle.module_grammar.specs.inside.ModuleStates.{a_variant, a_function, an_annotation}
use Rattle.module_grammar.specs.inside.ModuleMachine.{declared_step, parameters_step, parameter_ends}
use Rattle.module_grammar.specs.inside.ModuleMachine.{parameter_step, star_step, star_read_step}
use Rattle.module_grammar.specs.inside.ModuleMachine.{variant_step, variant_annotated, base_step}
use Rattle.module_grammar.specs.inside.ModuleMachine.{variant_from, function_annotated, function_step}
use Rattle.module_grammar.specs.inside.ModuleMachine.{annotation_annotated, annotation_declared_step}
use Rattle.module_grammar.specs.inside.ModuleStates.{prototype_from, function_from, plain_parameter}
use Rattle.module_grammar.specs.inside.ModuleMachine.{parameters_state}
use Rattle.module_grammar.specs.inside.ModuleStates.{place_of_declaration}
use Rattle.module_grammar.specs.inside.ModuleHolds.{PositionHolds, BegunStands, Then, Behind}
use Rattle.module_grammar.specs.inside.ModuleHolds.{AtLeastOne, OwnerStands, OwnedStands, Annotated}
use Rattle.module_grammar.specs.inside.ModuleHolds.{ParameterStands, ParametersOpen}
use Rattle.module_grammar.specs.inside.ModuleHolds.{AnnotatedFunction, FrequencyStands}
use Rattle.module_grammar.specs.inside.ModuleHolds.{AnnotatedVariant}
use Rattle.module_grammar.specs.inside.ModuleHolds.{ValueBehind}
use Rattle.module_grammar.proofs.ModuleListLaws.{are_on, no_several}
use Rattle.module_grammar.proofs.ModuleJoinLaws.{OutcomeHolds, stays, then_more, then_with}
use Rattle.module_grammar.proofs.ModuleJoinLaws.{then_nothing}
use Rattle.module_grammar.proofs.ModuleJoinLaws.{behind_with, regroup, then_map, declares, open_more}
use Rattle.module_grammar.proofs.ModuleJoinLaws.{several_open, if_star, star_is, nothing_written}
use Rattle.module_grammar.proofs.ModulePartLaws.{ParameterHolds, parameter_part, parameters_part}
use Rattle.module_grammar.proofs.ModuleWholeLaws.{Declares, function_whole, annotation_whole}
use Rattle.module_grammar.proofs.ModuleFormLaws.{function_from_whole, variant_whole}
use Rattle.module_grammar.proofs.ModuleDeclareLaws.{begin_annotations, begins_behind, unannotated}
use Rattle.module_grammar.proofs.ModuleDeclareLaws.{plain_front, parameter_front_keeps}

pub declared_keeps : (begun : Begun) (fronted : Fronted) (sort : Sort) (token : Token)
    (before own : List Token) → IsOf sort token.kind → BegunStands begun before →
    PositionHolds (declared fronted) own →
    OutcomeHolds (declared_step begun fronted sort) ((before ++ own) ++ token ∷ [])
declared_keeps begun fronted opening token before own is stands held =
    stays begun (parameters_begun (of_function fronted)) before own token stands tt
    (behind_with (mark_word (codes "(")) own token held is)
declared_keeps begun fronted _ token before own is stands held = tt

-- All parameters.

-- an owner, `(` and parameters
abbrev pub OwnerAnd : (List Token → Type 0) → Owner → List Token → Type 0
OwnerAnd Back owner tokens = Then (Behind (OwnerStands owner) (mark_word (codes "("))) Back tokens

owned : (owner : Owner) (parameters : List Parameter) (token : Token) (own : List Token) →
    OwnerAnd (ParameterStands parameters) owner own → token.kind ≡ mark_word (codes ")") →
    OwnedStands owner parameters (own ++ token ∷ [])
owned owner parameters token own held is =
    let b = held.one in record {
      front = b.front;
      back = b.last ∷ (held.back ++ token ∷ []);
      one = b.one;
      other = parameters_part parameters b.last held.back token b.is held.other is;
      are = sym (append_assoc b.front (b.last ∷ []) (held.back ++ token ∷ []))
          ∙ (ap (λ t. t ++ (held.back ++ token ∷ [])) b.are
          ∙ are_on held.front held.back own (token ∷ []) held.are);
    }

all_keeps : (begun : Begun) (owner : Owner) (parameters : List Parameter) (token : Token)
    (before own : List Token) → BegunStands begun before →
    OwnerAnd (ParameterStands parameters) owner own → token.kind ≡ mark_word (codes ")") →
    OutcomeHolds (on (within begun (parameters_state owner parameters)))
    ((before ++ own) ++ token ∷ [])
all_keeps begun (of_function fronted) parameters token before own stands held is =
    stays begun (function_read fronted parameters None) before own token stands tt (record {
      front = own ++ token ∷ [];
      back = [];
      one = owned (of_function fronted) parameters token own held is;
      other = refl;
      are = append-nil (own ++ token ∷ []);
    })
all_keeps begun (of_annotation named) parameters token before own stands held is =
    stays begun (annotation_declared named parameters) before own token stands tt
    (owned (of_annotation named) parameters token own held is)

pub parameter_ends_keeps : (begun : Begun) (owner : Owner) (parameters : List Parameter)
    (one : Parameter) (sort : Sort) (token : Token) (before own : List Token) →
    IsOf sort token.kind → BegunStands begun before →
    Then (ParametersOpen owner parameters) (ParameterHolds one) own →
    OutcomeHolds (parameter_ends begun owner (parameters ++ one ∷ []) sort)
    ((before ++ own) ++ token ∷ [])
parameter_ends_keeps begun owner parameters one sort token before own is stands held =
    by sort is (then_map own (regroup own held)
    (λ back both. subst (AtLeastOne ParameterStands (parameters ++ one ∷ [])) both.are
    (several_open write_parameter placed_parameter parameters one both.front both.back both.one
    (parameter_part one both.back both.other))))
  where
    by : (sort : Sort) → IsOf sort token.kind →
        OwnerAnd (AtLeastOne ParameterStands (parameters ++ one ∷ [])) owner own →
        OutcomeHolds (parameter_ends begun owner (parameters ++ one ∷ []) sort)
        ((before ++ own) ++ token ∷ [])
    by comma is held =
        stays begun (parameter_next owner (parameters ++ one ∷ [])) before own token stands tt
        (then_more own (token ∷ []) held
        (λ back some. open_more ParameterStands (parameters ++ one ∷ []) back token some is))
    by closing is held =
        all_keeps begun owner (parameters ++ one ∷ []) token before own stands
        (then_map own held (λ back some. some.stand)) is
    by _ is held = tt

none_yet : (owner : Owner) (own : List Token) →
    Behind (OwnerStands owner) (mark_word (codes "(")) own →
    OwnerAnd (ParameterStands []) owner own
none_yet owner own held = record {
  front = own;
  back = [];
  one = held;
  other = no_several write_parameter placed_parameter;
  are = append-nil own;
}

star_keeps : (begun : Begun) (owner : Owner) (op : ℕ) (token : Token) (before own : List Token) →
    token.kind ≡ mark_word (codes "*") → BegunStands begun before →
    PositionHolds (parameters_begun owner) own →
    OutcomeHolds (star_step begun owner) ((before ++ own) ++ token ∷ [])
star_keeps begun (of_function fronted) op token before own is stands held =
    stays begun (star_read fronted) before own token stands tt
    (behind_with (mark_word (codes "*")) own token held is)
star_keeps begun (of_annotation named) op token before own is stands held = tt

pub parameters_keeps : (number : ℕ) (begun : Begun) (owner : Owner) (sort : Sort) (token : Token)
    (before own : List Token) → IsOf sort token.kind → BegunStands begun before →
    PositionHolds (parameters_begun owner) own →
    OutcomeHolds (parameters_step number begun owner sort (place token))
    ((before ++ own) ++ token ∷ [])
parameters_keeps number begun owner closing token before own is stands held =
    all_keeps begun owner [] token before own stands (none_yet owner own held) is
parameters_keeps number begun owner (binary_operator op level) token before own is stands held =
    if_star op (star_step begun owner) ((before ++ own) ++ token ∷ [])
    (λ same. star_keeps begun owner op token before own (star_is op token is.0 same) stands held)
parameters_keeps number begun owner sort token before own is stands held =
    parameter_front_keeps number begun owner [] sort token before own is stands
    (then_nothing own held)

pub parameter_keeps : (begun : Begun) (owner : Owner) (parameters : List Parameter) (front : Front)
    (sort : Sort) (token : Token) (before own : List Token) → IsOf sort token.kind →
    BegunStands begun before → PositionHolds (parameter_read owner parameters front) own →
    OutcomeHolds (parameter_step begun owner parameters front sort)
    ((before ++ own) ++ token ∷ [])
parameter_keeps begun owner parameters front equals token before own is stands held =
    stays begun (expression (in_default owner parameters front) wanted []) before own token stands
    tt (then_more own (token ∷ []) held
    (λ back one. then_with back (token ∷ []) one (begins_behind token is)))
parameter_keeps begun owner parameters front opening_bracket token before own is stands held =
    begin_annotations begun (a_parameter owner parameters front None) before own token stands tt
    (then_map own held (λ back one. then_nothing back one)) is
parameter_keeps begun owner parameters front sort token before own is stands held =
    parameter_ends_keeps begun owner parameters (plain_parameter front None) sort token before own is
    stands (then_map own held (λ back one. plain_front front back one))

-- Annotations, as they are declared.

annotation_lists : (exports : List Token) (begin : Token) (ns ps a : List Token) (last : Token) →
    exports ++ begin ∷ (ns ++ (ps ++ (a ++ last ∷ [])))
    ≡ ((((exports ++ begin ∷ []) ++ ns) ++ ps) ++ a) ++ last ∷ []
annotation_lists exports begin ns ps a last = simp (append_assoc)

pub annotation_annotated_keeps : (begun : Begun) (named : Named) (parameters : List Parameter)
    (annotations : Option (List Annotation)) (sort : Sort) (token : Token)
    (before own : List Token) → IsOf sort token.kind → BegunStands begun before →
    Then (OwnedStands (of_annotation named) parameters) (Annotated annotations) own →
    OutcomeHolds (annotation_annotated begun named parameters annotations sort (place token))
    ((before ++ own) ++ token ∷ [])
annotation_annotated_keeps begun named parameters annotations semicolon token before own is stands
    held =
    let o = held.one in
    let n = o.one in
    let k = n.one in
    let one = annotation named.exported named.name parameters annotations
    (place_of_declaration named token.end) in
    declares begun one before own token stands
    (subst (Declares one)
    (annotation_lists k.exports k.begin n.back o.back held.back token
    ∙ (ap (λ t. (((t ++ n.back) ++ o.back) ++ held.back) ++ token ∷ []) k.are
    ∙ (ap (λ t. ((t ++ o.back) ++ held.back) ++ token ∷ []) n.are
    ∙ (ap (λ t. (t ++ held.back) ++ token ∷ []) o.are ∙ ap (λ t. t ++ token ∷ []) held.are))))
    (annotation_whole named parameters annotations k.exports n.back o.back held.back k.begin token
    k.exporting k.is n.other k.first o.other held.other is))
annotation_annotated_keeps begun named parameters annotations _ token before own is stands held = tt

pub annotation_declared_keeps : (begun : Begun) (named : Named) (parameters : List Parameter)
    (sort : Sort) (token : Token) (before own : List Token) → IsOf sort token.kind →
    BegunStands begun before → PositionHolds (annotation_declared named parameters) own →
    OutcomeHolds (annotation_declared_step begun named parameters sort (place token))
    ((before ++ own) ++ token ∷ [])
annotation_declared_keeps begun named parameters opening_bracket token before own is stands held =
    begin_annotations begun (an_annotation named parameters) before own token stands tt held is
annotation_declared_keeps begun named parameters sort token before own is stands held =
    annotation_annotated_keeps begun named parameters None sort token before own is stands
    (unannotated own held)

-- Functions.

function_lists : (exports ts ns ps fs a v : List Token) (last : Token) →
    exports ++ (ts ++ (ns ++ (ps ++ (fs ++ (a ++ (v ++ last ∷ []))))))
    ≡ (((((exports ++ (ts ++ ns)) ++ ps) ++ fs) ++ a) ++ v) ++ last ∷ []
function_lists exports ts ns ps fs a v last = simp (append_assoc)

function_are : (exports ts ns f ps o fs n a m v own : List Token) (last : Token) →
    exports ++ (ts ++ ns) ≡ f → f ++ ps ≡ o → o ++ fs ≡ n → n ++ a ≡ m → m ++ v ≡ own →
    exports ++ (ts ++ (ns ++ (ps ++ (fs ++ (a ++ (v ++ last ∷ [])))))) ≡ own ++ last ∷ []
function_are exports ts ns f ps o fs n a m v own last one two three four five =
    function_lists exports ts ns ps fs a v last
    ∙ (ap (λ t. ((((t ++ ps) ++ fs) ++ a) ++ v) ++ last ∷ []) one
    ∙ (ap (λ t. (((t ++ fs) ++ a) ++ v) ++ last ∷ []) two
    ∙ (ap (λ t. ((t ++ a) ++ v) ++ last ∷ []) three
    ∙ (ap (λ t. (t ++ v) ++ last ∷ []) four ∙ ap (λ t. t ++ last ∷ []) five))))

-- a prototype
prototype_part : (fronted : Fronted) (parameters : List Parameter) (frequency : Option Freq)
    (annotations : Option (List Annotation)) (token : Token) (own : List Token) →
    AnnotatedFunction fronted parameters frequency annotations own →
    token.kind ≡ mark_word (codes ";") →
    Declares (prototype_from fronted parameters frequency annotations token.end)
    (own ++ token ∷ [])
prototype_part fronted parameters frequency annotations token own held is =
    let n = held.one in
    let o = n.one in
    let f = o.one in
    subst (Declares (prototype_from fronted parameters frequency annotations token.end))
    (function_are f.exports f.types f.names o.front o.back n.front n.back held.front held.back own []
    own token f.are o.are n.are held.are (append-nil own))
    (function_whole fronted parameters frequency annotations None f.exports f.types f.names o.back
    n.back held.back [] token f.exporting f.typed f.name f.first o.other n.other held.other refl is)

-- a function with a body
pub function_part : (fronted : Fronted) (parameters : List Parameter) (frequency : Option Freq)
    (annotations : Option (List Annotation)) (body : Tree) (token : Token) (own : List Token) →
    Then (AnnotatedFunction fronted parameters frequency annotations) (ValueBehind body) own →
    token.kind ≡ mark_word (codes ";") →
    Declares (function_from fronted parameters frequency annotations body token.end)
    (own ++ token ∷ [])
function_part fronted parameters frequency annotations body token own whole is =
    let held = whole.one in
    let n = held.one in
    let o = n.one in
    let f = o.one in
    subst (Declares (function_from fronted parameters frequency annotations body token.end))
    (function_are f.exports f.types f.names o.front o.back n.front n.back held.front held.back
    whole.front whole.back own token f.are o.are n.are held.are whole.are)
    (function_from_whole fronted parameters frequency annotations body f.exports f.types f.names
    o.back n.back held.back whole.back token f.exporting f.typed f.name f.first o.other n.other
    held.other whole.other is)

pub function_annotated_keeps : (begun : Begun) (fronted : Fronted) (parameters : List Parameter)
    (frequency : Option Freq) (annotations : Option (List Annotation)) (sort : Sort) (token : Token)
    (before own : List Token) → IsOf sort token.kind → BegunStands begun before →
    AnnotatedFunction fronted parameters frequency annotations own →
    OutcomeHolds (function_annotated begun fronted parameters frequency annotations sort
    (place token)) ((before ++ own) ++ token ∷ [])
function_annotated_keeps begun fronted parameters frequency annotations equals token before own is
    stands held =
    stays begun (expression (in_function_body fronted parameters frequency annotations) wanted [])
    before own token stands tt (then_with own (token ∷ []) held (begins_behind token is))
function_annotated_keeps begun fronted parameters frequency annotations semicolon token before own is
    stands held =
    declares begun (prototype_from fronted parameters frequency annotations token.end) before own
    token stands (prototype_part fronted parameters frequency annotations token own held is)
function_annotated_keeps begun fronted parameters frequency annotations opening_brace token before
    own is stands held = tt
function_annotated_keeps begun fronted parameters frequency annotations _ token before own is stands
    held = tt

pub function_keeps : (begun : Begun) (fronted : Fronted) (parameters : List Parameter)
    (frequency : Option Freq) (sort : Sort) (token : Token) (before own : List Token) →
    IsOf sort token.kind → BegunStands begun before →
    PositionHolds (function_read fronted parameters frequency) own →
    OutcomeHolds (function_step begun fronted parameters frequency sort (place token))
    ((before ++ own) ++ token ∷ [])
function_keeps begun fronted parameters None (frequency_word frequency) token before own is stands
    held =
    stays begun (function_read fronted parameters (Some frequency)) before own token stands tt
    (then_more own (token ∷ []) held
    (λ back none. subst (λ b. FrequencyStands (Some frequency) (b ++ token ∷ []))
    (sym (nothing_written back none)) is))
function_keeps begun fronted parameters frequency opening_bracket token before own is stands held =
    begin_annotations begun (a_function fronted parameters frequency) before own token stands tt held
    is
function_keeps begun fronted parameters frequency sort token before own is stands held =
    function_annotated_keeps begun fronted parameters frequency None sort token before own is stands
    (unannotated own held)

-- Variants.

pub star_read_keeps : (begun : Begun) (fronted : Fronted) (sort : Sort) (token : Token)
    (before own : List Token) → IsOf sort token.kind → BegunStands begun before →
    PositionHolds (star_read fronted) own →
    OutcomeHolds (star_read_step begun fronted sort) ((before ++ own) ++ token ∷ [])
star_read_keeps begun fronted closing token before own is stands held =
    stays begun (variant_read fronted) before own token stands tt
    (behind_with (mark_word (codes ")")) own token held is)
star_read_keeps begun fronted _ token before own is stands held = tt

pub variant_annotated_keeps : (begun : Begun) (fronted : Fronted)
    (annotations : Option (List Annotation)) (sort : Sort) (token : Token)
    (before own : List Token) → IsOf sort token.kind → BegunStands begun before →
    AnnotatedVariant fronted annotations own →
    OutcomeHolds (variant_annotated begun fronted annotations sort) ((before ++ own) ++ token ∷ [])
variant_annotated_keeps begun fronted annotations equals token before own is stands held =
    stays begun (expression (in_base fronted annotations) wanted []) before own token stands tt
    (then_with own (token ∷ []) held (record { behind = begins_behind token is; form = tt }))
variant_annotated_keeps begun fronted annotations _ token before own is stands held = tt

pub variant_keeps : (begun : Begun) (fronted : Fronted) (sort : Sort) (token : Token)
    (before own : List Token) → IsOf sort token.kind → BegunStands begun before →
    PositionHolds (variant_read fronted) own →
    OutcomeHolds (variant_step begun fronted sort) ((before ++ own) ++ token ∷ [])
variant_keeps begun fronted opening_bracket token before own is stands held =
    begin_annotations begun (a_variant fronted) before own token stands tt held is
variant_keeps begun fronted sort token before own is stands held =
    variant_annotated_keeps begun fronted None sort token before own is stands
    (unannotated own held)

variant_lists : (exports ts ns : List Token) (o s c : Token) (a : List Token) (e : Token)
    (own : List Token) (last : Token) →
    exports ++ (ts ++ (ns ++ o ∷ s ∷ c ∷ (a ++ e ∷ (own ++ last ∷ []))))
    ≡ ((((((exports ++ (ts ++ ns)) ++ o ∷ []) ++ s ∷ []) ++ c ∷ []) ++ a) ++ e ∷ own) ++ last ∷ []
variant_lists exports ts ns o s c a e own last = simp (append_assoc)

pub base_keeps : (begun : Begun) (fronted : Fronted) (annotations : Option (List Annotation))
    (base : Annotation) (sort : Sort) (token : Token) (before own : List Token) →
    IsOf sort token.kind → BegunStands begun before →
    PositionHolds (base_read fronted annotations base) own →
    OutcomeHolds (base_step begun fronted annotations base sort (place token))
    ((before ++ own) ++ token ∷ [])
base_keeps begun fronted annotations base semicolon token before own is stands held =
    let m = held.one in
    let c = m.one in
    let s = c.one in
    let o = s.one in
    let f = o.one in
    let v = held.other in
    let one = variant_from fronted annotations base token.end in
    declares begun one before own token stands
    (subst (Declares one)
    (variant_lists f.exports f.types f.names o.last s.last c.last m.back v.equals v.own token
    ∙ (ap (λ t. (((((t ++ o.last ∷ []) ++ s.last ∷ []) ++ c.last ∷ []) ++ m.back) ++ v.equals
    ∷ v.own) ++ token ∷ []) f.are
    ∙ (ap (λ t. ((((t ++ s.last ∷ []) ++ c.last ∷ []) ++ m.back) ++ v.equals ∷ v.own) ++ token ∷ [])
    o.are
    ∙ (ap (λ t. (((t ++ c.last ∷ []) ++ m.back) ++ v.equals ∷ v.own) ++ token ∷ []) s.are
    ∙ (ap (λ t. ((t ++ m.back) ++ v.equals ∷ v.own) ++ token ∷ []) c.are
    ∙ (ap (λ t. (t ++ v.equals ∷ v.own) ++ token ∷ []) m.are
    ∙ (ap (λ b. (held.front ++ b) ++ token ∷ []) v.are ∙ ap (λ t. t ++ token ∷ []) held.are)))))))
    (variant_whole fronted annotations base f.exports f.types f.names m.back v.own o.last s.last
    c.last v.equals token f.exporting f.typed f.name f.first o.is s.is c.is m.other v.is v.stands
    is))
base_keeps begun fronted annotations base _ token before own is stands held = tt
