-- What the machine goes on to behind an operand's tokens holds again.
use Rattle.std.proofs.Common.{◌≡◌, ◌∙◌, sym, ap, subst, refl, arith, ℕ, ◌==◌, Bool, true}
use Rattle.std.proofs.Common.{false, List, [], ◌∷◌, ◌++◌, length, Option, Some, None, codes}
use Rattle.std.proofs.lemmas.List.{append_assoc}
use Rattle.mdl_lexer.specs.Kinds.{mark_word}
use Rattle.mdl_lexer.specs.declared.token.Kind.TheVariants as kind
use Rattle.mdl_lexer.specs.declared.token.Token.{Token}
use Rattle.mdl_syntax.specs.declared.names.Name.{Name}
use Rattle.mdl_syntax.specs.declared.expressions.Lit.TheVariants as lit
use Rattle.mdl_syntax.specs.Written.{number_words}
use Rattle.mdl_syntax.specs.Trees.{Tree, literal, field, call, array, Argument, arguments_of}
use Rattle.mdl_syntax.specs.Trees.{trees_of}
use Rattle.expression_grammar.specs.inside.Machine.{Sort, Frame, Mode, Path, Purpose, goes, bad}
use Rattle.expression_grammar.specs.inside.Machine.{identifier, integer, other_literal, type_word}
use Rattle.expression_grammar.specs.inside.Machine.{unary_operator, either_operator, colon, double_colon}
use Rattle.expression_grammar.specs.inside.Machine.{opening, closing, opening_bracket, closing_bracket}
use Rattle.expression_grammar.specs.inside.Machine.{let_word}
use Rattle.expression_grammar.specs.inside.Machine.{in_parentheses, behind_unary, in_index, in_arguments}
use Rattle.expression_grammar.specs.inside.Machine.{in_elements, wanted, complete, part_wanted, part_read}
use Rattle.expression_grammar.specs.inside.Machine.{word_read, bracketed, sized, sized_closed}
use Rattle.expression_grammar.specs.inside.Machine.{unsized_closed}
use Rattle.expression_grammar.specs.inside.Machine.{first_argument, identifier_read, colon_wanted}
use Rattle.expression_grammar.specs.inside.Machine.{first_element}
use Rattle.expression_grammar.specs.inside.Machine.{let_begun, in_expression, head_wanted, type_wanted}
use Rattle.expression_grammar.specs.inside.Machine.{type_bracketed, type_sized, name_wanted, equals_wanted}
use Rattle.expression_grammar.specs.inside.Machine.{next_wanted, in_wanted, span_of, from_to, ident_at}
use Rattle.expression_grammar.specs.inside.Machine.{word_name, path_name, first_part, absolute_path}
use Rattle.expression_grammar.specs.inside.Machine.{name_tree, integer_tree, indexed_tree, asked, within}
use Rattle.expression_grammar.specs.inside.Machine.{unless_bad, wanted_step, complete_step, name_step}
use Rattle.expression_grammar.specs.inside.Machine.{used_step}
use Rattle.expression_grammar.specs.inside.Machine.{part_step, bracketed_step, sized_step}
use Rattle.expression_grammar.specs.inside.Machine.{sized_closed_step, unsized_closed_step, argument_step}
use Rattle.expression_grammar.specs.inside.Machine.{first_argument_step, labelled_step, identifier_step}
use Rattle.expression_grammar.specs.inside.Machine.{colon_wanted_step, first_element_step, field_step}
use Rattle.expression_grammar.specs.inside.Machine.{mode_step}
use Rattle.expression_grammar.specs.inside.Machine.{deferred_wanted, deferred_read, deferred_closed}
use Rattle.expression_grammar.specs.inside.Machine.{in_type}
use Rattle.expression_grammar.specs.inside.Sorts.{IsOf}
use Rattle.expression_grammar.specs.Readings.{kinds}
use Rattle.expression_grammar.specs.inside.Stands.{Stands, NameStands, LabelStands}
use Rattle.expression_grammar.specs.inside.Sound.{IsMark, Around, parentheses, unary_front, index_front}
use Rattle.expression_grammar.specs.inside.Sound.{first_argument_front, next_argument_front}
use Rattle.expression_grammar.specs.inside.Sound.{first_element_front}
use Rattle.expression_grammar.specs.inside.Sound.{place, absolute_front, longer_front, FrontStands}
use Rattle.expression_grammar.specs.inside.Sound.{of_expression, Holds, is_wanted, is_complete}
use Rattle.expression_grammar.specs.inside.Sound.{part_is_wanted}
use Rattle.expression_grammar.specs.inside.Sound.{part_is_read, word_is_read, is_bracketed, is_sized}
use Rattle.expression_grammar.specs.inside.Sound.{size_is_closed, no_size_is_closed, is_first_argument}
use Rattle.expression_grammar.specs.inside.Sound.{argument_is_wanted, identifier_is_read, colon_is_wanted}
use Rattle.expression_grammar.specs.inside.Sound.{is_first_element, field_is_wanted, let_is_begun}
use Rattle.expression_grammar.specs.inside.Sound.{of_type}
use Rattle.expression_grammar.proofs.KindLaws.{not_empty, assoc_three}
use Rattle.expression_grammar.proofs.HoldLaws.{HoldsAt, moved, chosen, within_holds, unless_bad_holds}
use Rattle.expression_grammar.proofs.CompleteLaws.{complete_keeps}
use Rattle.expression_grammar.proofs.FormLaws.{stands_literal, stands_name, stands_indexed, stands_field}
use Rattle.expression_grammar.proofs.FormLaws.{word_name_stands, first_part_stands}
use Rattle.expression_grammar.proofs.ListLaws.{stands_call, stands_array, no_arguments_stand}
use Rattle.expression_grammar.proofs.ListLaws.{no_trees_stand}
use Rattle.expression_grammar.proofs.ListLaws.{no_label_stands, label_stands}

-- An operand is wanted.

wanted_keeps : (limit : ℕ) (frames : List Frame) (tokens : List Token) (sort : Sort)
    (token : Token) → IsOf sort token.kind → Around frames tokens →
    HoldsAt (wanted_step limit frames sort (place token)) (tokens ++ token ∷ [])
wanted_keeps limit frames tokens (identifier text) token is outer =
    within_holds (tokens ++ token ∷ []) limit frames 1
    (goes (part_read in_expression (first_part text (place token))) frames)
    (part_is_read frames tokens [] (token ∷ []) in_expression (first_part text (place token)) outer
    (of_expression (token ∷ [])) (first_part_stands text token is)
    (not_empty (ident_at text (place token)) []))
wanted_keeps limit frames tokens (integer value) token is outer =
    within_holds (tokens ++ token ∷ []) limit frames 1
    (goes (complete (integer_tree value (place token))) frames) (is_complete frames tokens
    (token ∷ []) (integer_tree value (place token)) outer (stands_literal (lit.Int value) token is))
wanted_keeps limit frames tokens (other_literal own) token is outer =
    within_holds (tokens ++ token ∷ []) limit frames 1 (goes (complete (literal own (place token)))
    frames) (is_complete frames tokens (token ∷ []) (literal own (place token)) outer
    (stands_literal own token is))
wanted_keeps limit frames tokens (type_word number) token is outer =
    within_holds (tokens ++ token ∷ []) limit frames 1
    (goes (word_read in_expression (word_name number (place token))) frames)
    (word_is_read frames tokens [] (token ∷ []) in_expression (word_name number (place token)) outer
    (of_expression (token ∷ [])) (word_name_stands number token is.0))
wanted_keeps limit frames tokens double_colon token is outer =
    within_holds (tokens ++ token ∷ []) limit frames 1
    (goes (part_wanted in_expression (absolute_path (place token))) frames)
    (part_is_wanted frames tokens [] (token ∷ []) in_expression (absolute_path (place token)) outer
    (of_expression (token ∷ [])) (absolute_front token (record { is = is })))
wanted_keeps limit frames tokens opening token is outer =
    within_holds (tokens ++ token ∷ []) limit frames 2
    (goes wanted (in_parentheses token.at ∷ frames)) (is_wanted (in_parentheses token.at ∷ frames)
    (tokens ++ token ∷ [])
    (parentheses frames tokens token outer (record { is = is })))
wanted_keeps limit frames tokens (unary_operator op) token is outer =
    within_holds (tokens ++ token ∷ []) limit frames 2
    (goes wanted (behind_unary op token.at ∷ frames)) (is_wanted (behind_unary op token.at ∷ frames)
    (tokens ++ token ∷ []) (unary_front frames tokens token op outer is.0))
wanted_keeps limit frames tokens (either_operator op level) token is outer =
    within_holds (tokens ++ token ∷ []) limit frames 2
    (goes wanted (behind_unary op token.at ∷ frames)) (is_wanted (behind_unary op token.at ∷ frames)
    (tokens ++ token ∷ []) (unary_front frames tokens token op outer is.0))
wanted_keeps limit frames tokens let_word token is outer =
    chosen (tokens ++ token ∷ []) (asked frames == 0) (within limit frames 2
    (goes (let_begun token.at) frames)) bad (within_holds (tokens ++ token ∷ []) limit frames 2
    (goes (let_begun token.at) frames)
    (let_is_begun frames tokens token outer (record { is = is }))) tt
wanted_keeps limit frames tokens sort token is outer = tt

-- Behind a name.

name_keeps : (limit : ℕ) (name : Name) (frames : List Frame) (before names : List Token)
    (sort : Sort) (token : Token) → IsOf sort token.kind → Around frames before →
    NameStands name names → HoldsAt (name_step limit name frames sort (place token))
    ((before ++ names) ++ token ∷ [])
name_keeps limit name frames before names opening token is outer stands =
    moved (before ++ (names ++ token ∷ [])) ((before ++ names) ++ token ∷ [])
    (goes first_argument (in_arguments name [] false None ∷ frames))
    (sym (append_assoc before names (token ∷ [])))
    (is_first_argument frames before names name token false outer stands (record { is = is }))
name_keeps limit name frames before names opening_bracket token is outer stands =
    moved (before ++ (names ++ token ∷ [])) ((before ++ names) ++ token ∷ [])
    (goes (bracketed name) frames) (sym (append_assoc before names (token ∷ [])))
    (is_bracketed frames before names name token outer stands (record { is = is }))
name_keeps limit name frames before names sort token is outer stands =
    complete_keeps limit frames before names (name_tree name) token sort is outer
    (stands_name name names stands)

bracketed_keeps : (limit : ℕ) (name : Name) (frames : List Frame) (before names : List Token)
    (mark : Token) (sort : Sort) (token : Token) → IsOf sort token.kind → Around frames before →
    NameStands name names → IsMark mark (codes "[") →
    HoldsAt (bracketed_step limit name frames sort (place token)) ((before ++ (names ++ mark ∷ []))
    ++ token ∷ [])
bracketed_keeps limit name frames before names mark closing_bracket token is outer stands opens =
    moved (before ++ (names ++ mark ∷ token ∷ [])) ((before ++ (names ++ mark ∷ [])) ++ token ∷ [])
    (goes (unsized_closed name) frames) (assoc_three before names (mark ∷ []) (token ∷ []))
    (no_size_is_closed frames before names name mark token outer stands opens (record { is = is }))
bracketed_keeps limit name frames before names mark (integer value) token is outer stands opens =
    moved (before ++ (names ++ mark ∷ token ∷ [])) ((before ++ (names ++ mark ∷ [])) ++ token ∷ [])
    (goes (sized name value (place token)) frames) (assoc_three before names (mark ∷ [])
    (token ∷ [])) (is_sized frames before names name mark token value outer stands opens is)
bracketed_keeps limit name frames before names mark sort token is outer stands opens =
    wanted_keeps limit (in_index (name_tree name) ∷ frames) (before ++ (names ++ mark ∷ [])) sort
    token is (index_front frames before names mark (name_tree name) outer
    (stands_name name names stands) opens)

-- behind `name[3`, where the number is an expression
sized_other : (limit : ℕ) (name : Name) (frames : List Frame) (before names : List Token)
    (mark number : Token) (value : ℕ) (sort : Sort) (token : Token) → IsOf sort token.kind →
    Around frames before → NameStands name names → IsMark mark (codes "[") →
    number.kind ≡ kind.Int value → HoldsAt (complete_step limit (integer_tree value (place number))
    (in_index (name_tree name) ∷ frames) sort (place token))
    ((before ++ (names ++ mark ∷ number ∷ [])) ++ token ∷ [])
sized_other limit name frames before names mark number value sort token is outer stands opens
    counts =
    moved (((before ++ (names ++ mark ∷ [])) ++ number ∷ []) ++ token ∷ [])
    ((before ++ (names ++ mark ∷ number ∷ [])) ++ token ∷ [])
    (complete_step limit (integer_tree value (place number)) (in_index (name_tree name) ∷ frames)
    sort (place token)) (ap (λ t. t ++ token ∷ [])
    (sym (assoc_three before names (mark ∷ []) (number ∷ []))))
    (complete_keeps limit (in_index (name_tree name) ∷ frames) (before ++ (names ++ mark ∷ []))
    (number ∷ []) (integer_tree value (place number)) token sort is (index_front frames before names
    mark (name_tree name) outer (stands_name name names stands) opens)
    (stands_literal (lit.Int value) number counts))

sized_keeps : (limit : ℕ) (name : Name) (frames : List Frame) (before names : List Token)
    (mark number : Token) (value : ℕ) (sort : Sort) (token : Token) → IsOf sort token.kind →
    Around frames before → NameStands name names → IsMark mark (codes "[") →
    number.kind ≡ kind.Int value → HoldsAt (sized_step limit name value (place number) frames sort
    (place token)) ((before ++ (names ++ mark ∷ number ∷ [])) ++ token ∷ [])
sized_keeps limit name frames before names mark number value closing_bracket token is outer
    stands opens counts =
    moved (before ++ (names ++ mark ∷ number ∷ token ∷ []))
    ((before ++ (names ++ mark ∷ number ∷ [])) ++ token ∷ [])
    (goes (sized_closed name value (place number) token.end) frames) (assoc_three before names
    (mark ∷ number ∷ []) (token ∷ [])) (size_is_closed frames before names name mark number token
    value outer stands opens counts
    (record { is = is }))
sized_keeps limit name frames before names mark number value sort token is outer stands opens
    counts =
    sized_other limit name frames before names mark number value sort token is outer stands opens
    counts

-- behind `name[3]`, where that is an index
indexed_other : (limit : ℕ) (name : Name) (frames : List Frame) (before names : List Token)
    (mark number close : Token) (value : ℕ) (sort : Sort) (token : Token) → IsOf sort token.kind →
    Around frames before → NameStands name names → IsMark mark (codes "[") →
    number.kind ≡ kind.Int value → IsMark close (codes "]") →
    HoldsAt (unless_bad limit frames 2 (complete_step limit (indexed_tree name value (place number)
    close.end) frames sort (place token))) ((before ++ (names ++ mark ∷ number ∷ close ∷ []))
    ++ token ∷ [])
indexed_other limit name frames before names mark number close value sort token is outer
    stands opens counts closes =
    unless_bad_holds ((before ++ (names ++ mark ∷ number ∷ close ∷ [])) ++ token ∷ []) limit frames
    2 (complete_step limit (indexed_tree name value (place number) close.end) frames sort
    (place token)) (complete_keeps limit frames before (names ++ mark ∷ number ∷ close ∷ [])
    (indexed_tree name value (place number) close.end) token sort is outer
    (stands_indexed mark close (name_tree name) (integer_tree value (place number)) names
    (number ∷ []) opens.is closes.is (stands_name name names stands) (stands_literal (lit.Int value)
    number counts)))

sized_closed_keeps : (limit : ℕ) (name : Name) (frames : List Frame)
    (before names : List Token) (mark number close : Token) (value : ℕ) (sort : Sort)
    (token : Token) → IsOf sort token.kind → Around frames before → NameStands name names →
    IsMark mark (codes "[") → number.kind ≡ kind.Int value → IsMark close (codes "]") →
    HoldsAt (sized_closed_step limit name value (place number) close.end frames sort (place token))
    ((before ++ (names ++ mark ∷ number ∷ close ∷ [])) ++ token ∷ [])
sized_closed_keeps limit name frames before names mark number close value opening token is outer
    stands opens counts closes =
    moved (before ++ (names ++ mark ∷ number ∷ close ∷ token ∷ []))
    ((before ++ (names ++ mark ∷ number ∷ close ∷ [])) ++ token ∷ [])
    (goes first_element (in_elements name (Some value) [] ∷ frames)) (assoc_three before names
    (mark ∷ number ∷ close ∷ []) (token ∷ [])) (is_first_element frames before names (number ∷ [])
    mark close token name (Some value) outer stands opens
    (λ i. sym counts i ∷ []) closes (record { is = is }))
sized_closed_keeps limit name frames before names mark number close value sort token is outer stands
    opens counts closes =
    indexed_other limit name frames before names mark number close value sort token is outer stands
    opens counts closes

unsized_closed_keeps : (name : Name) (frames : List Frame) (before names : List Token)
    (mark close : Token) (sort : Sort) (token : Token) → IsOf sort token.kind →
    Around frames before → NameStands name names → IsMark mark (codes "[") →
    IsMark close (codes "]") → HoldsAt (unsized_closed_step name frames sort)
    ((before ++ (names ++ mark ∷ close ∷ [])) ++ token ∷ [])
unsized_closed_keeps name frames before names mark close opening token is outer stands opens
    closes =
    moved (before ++ (names ++ mark ∷ close ∷ token ∷ [])) ((before ++ (names ++ mark ∷ close ∷ []))
    ++ token ∷ []) (goes first_element (in_elements name None [] ∷ frames))
    (assoc_three before names (mark ∷ close ∷ []) (token ∷ [])) (is_first_element frames before
    names [] mark close token name None outer stands opens refl closes
    (record { is = is }))
unsized_closed_keeps name frames before names mark close sort token is outer stands opens closes =
    tt

-- Parts of names.

part_keeps : (limit : ℕ) (path : Path) (frames : List Frame) (before names : List Token)
    (sort : Sort) (token : Token) → IsOf sort token.kind → Around frames before →
    NameStands (path_name path) names → (path.parts ≡ [] → ⊥) →
    HoldsAt (part_step limit in_expression path frames sort (place token))
    ((before ++ names) ++ token ∷ [])
part_keeps limit path frames before names double_colon token is outer stands some =
    moved (before ++ (names ++ token ∷ [])) ((before ++ names) ++ token ∷ [])
    (goes (part_wanted in_expression path) frames) (sym (append_assoc before names (token ∷ [])))
    (part_is_wanted frames before [] (names ++ token ∷ []) in_expression path outer
    (of_expression (names ++ token ∷ [])) (longer_front path names token stands some
    (record { is = is })))
part_keeps limit path frames before names sort token is outer stands some =
    name_keeps limit (path_name path) frames before names sort token is outer stands

-- Fields.

field_keeps : (tree : Tree) (frames : List Frame) (before own : List Token) (mark : Token)
    (sort : Sort) (token : Token) → IsOf sort token.kind → Around frames before → Stands tree own →
    IsMark mark (codes ".") → HoldsAt (field_step tree frames sort (place token))
    ((before ++ (own ++ mark ∷ [])) ++ token ∷ [])
field_keeps tree frames before own mark (identifier text) token is outer stands divides =
    moved (before ++ (own ++ mark ∷ token ∷ [])) ((before ++ (own ++ mark ∷ [])) ++ token ∷ [])
    (goes (complete (field tree (ident_at text (place token)) (from_to (span_of tree).at
    token.end))) frames) (assoc_three before own (mark ∷ []) (token ∷ []))
    (is_complete frames before (own ++ mark ∷ token ∷ []) (field tree (ident_at text (place token))
    (from_to (span_of tree).at token.end)) outer (stands_field mark token text tree own divides.is
    is stands))
field_keeps tree frames before names mark sort token is outer stands divides = tt

-- The first element of an array.

first_element_keeps : (limit : ℕ) (frames : List Frame) (before names sizes : List Token)
    (bracket end_bracket mark : Token) (name : Name) (size : Option ℕ) (sort : Sort)
    (token : Token) → IsOf sort token.kind → Around frames before → NameStands name names →
    IsMark bracket (codes "[") → number_words size ≡ kinds sizes → IsMark end_bracket (codes "]") →
    IsMark mark (codes "(") →
    HoldsAt (first_element_step limit (in_elements name size [] ∷ frames) sort (place token))
    ((before ++ (names ++ bracket ∷ (sizes ++ end_bracket ∷ mark ∷ []))) ++ token ∷ [])
first_element_keeps limit frames before names sizes bracket end_bracket mark name size closing token
    is outer stands begins counts ends opens =
    moved (before ++ (names ++ bracket ∷ (sizes ++ end_bracket ∷ mark ∷ token ∷ [])))
    ((before ++ (names ++ bracket ∷ (sizes ++ end_bracket ∷ mark ∷ []))) ++ token ∷ [])
    (goes (complete (array name size (trees_of []) (from_to name.span.at token.end))) frames)
    (ap (λ t. before ++ (names ++ bracket ∷ t))
    (sym (append_assoc sizes (end_bracket ∷ mark ∷ []) (token ∷ []))) ∙ assoc_three before names
    (bracket ∷ (sizes ++ end_bracket ∷ mark ∷ [])) (token ∷ [])) (is_complete frames before
    (names ++ bracket ∷ (sizes ++ end_bracket ∷ mark ∷ token ∷ []))
    (array name size (trees_of []) (from_to name.span.at token.end)) outer
    (stands_array name names size sizes bracket end_bracket mark [] [] token stands counts begins.is
    ends.is opens.is is no_trees_stand))
first_element_keeps limit frames before names sizes bracket end_bracket mark name size sort token is
    outer stands begins counts ends opens =
    wanted_keeps limit (in_elements name size [] ∷ frames)
    (before ++ (names ++ bracket ∷ (sizes ++ end_bracket ∷ mark ∷ []))) sort token is
    (first_element_front frames before names sizes bracket end_bracket mark name size outer stands
    begins counts ends opens)

-- Arguments.

argument_keeps : (limit : ℕ) (frames : List Frame) (tokens : List Token) (name : Name)
    (arguments : List Argument) (with_name : Bool) (sort : Sort) (token : Token) →
    IsOf sort token.kind → Around (in_arguments name arguments with_name None ∷ frames) tokens →
    HoldsAt (argument_step limit (in_arguments name arguments with_name None ∷ frames) sort
    (place token)) (tokens ++ token ∷ [])
argument_keeps limit frames tokens name arguments true (identifier text) token is outer =
    within_holds (tokens ++ token ∷ []) limit (in_arguments name arguments true None ∷ frames) 1
    (goes (colon_wanted (ident_at text (place token))) (in_arguments name arguments true None
    ∷ frames)) (colon_is_wanted frames tokens name arguments true text token outer is)
argument_keeps limit frames tokens name arguments false (identifier text) token is outer =
    within_holds (tokens ++ token ∷ []) limit (in_arguments name arguments false None ∷ frames) 1
    (goes (identifier_read (ident_at text (place token))) (in_arguments name arguments false None
    ∷ frames)) (identifier_is_read frames tokens name arguments false text token outer is)
argument_keeps limit frames tokens name arguments true sort token is outer = tt
argument_keeps limit frames tokens name arguments false sort token is outer =
    wanted_keeps limit (in_arguments name arguments false None ∷ frames) tokens sort token is outer

first_argument_keeps : (limit : ℕ) (frames : List Frame) (before names : List Token) (name : Name)
    (mark : Token) (with_name : Bool) (sort : Sort) (token : Token) → IsOf sort token.kind →
    Around frames before → NameStands name names → IsMark mark (codes "(") →
    HoldsAt (first_argument_step limit (in_arguments name [] with_name None ∷ frames) sort
    (place token)) ((before ++ (names ++ mark ∷ [])) ++ token ∷ [])
first_argument_keeps limit frames before names name mark with_name closing token is outer stands
    opens =
    moved (before ++ (names ++ mark ∷ token ∷ [])) ((before ++ (names ++ mark ∷ [])) ++ token ∷ [])
    (goes (complete (call name (arguments_of []) (from_to name.span.at token.end))) frames)
    (assoc_three before names (mark ∷ []) (token ∷ [])) (is_complete frames before
    (names ++ mark ∷ token ∷ []) (call name (arguments_of []) (from_to name.span.at token.end))
    outer (stands_call name names mark [] [] token stands opens.is is no_arguments_stand))
first_argument_keeps limit frames before names name mark with_name sort token is outer stands
    opens =
    argument_keeps limit frames (before ++ (names ++ mark ∷ [])) name [] with_name sort token is
    (first_argument_front frames before names [] mark name with_name None outer stands opens
    no_label_stands)

-- Labels.

grown_two : (before names more : List Token) (one other : Token) →
    before ++ (names ++ (more ++ one ∷ other ∷ [])) ≡ ((before ++ (names ++ more)) ++ one ∷ [])
    ++ other ∷ []
grown_two before names more one other =
    ap (λ t. before ++ t) (sym (append_assoc names more (one ∷ other ∷ [])))
    ∙ (sym (append_assoc before (names ++ more) (one ∷ other ∷ [])) ∙ sym
    (append_assoc (before ++ (names ++ more)) (one ∷ []) (other ∷ [])))

label_grows : (labels : List Token) (text : List ℕ) (word mark : Token) → LabelStands None labels →
    word.kind ≡ kind.Word text → mark.kind ≡ mark_word (codes ":") →
    LabelStands (Some (ident_at text (place word))) (labels ++ word ∷ mark ∷ [])
label_grows [] text word mark stands is divides = label_stands text word mark is divides
label_grows (label ∷ labels) text word mark stands is divides =
    absurd (omega (arith, ap length stands.writes))

-- the arguments' frame takes the next argument's name
abbrev TakesLabel : List Frame → List Token → Type 0
TakesLabel (in_arguments name arguments with_name None ∷ frames) tokens =
    (text : List ℕ) (word mark : Token) → word.kind ≡ kind.Word text →
    mark.kind ≡ mark_word (codes ":") →
    Around (in_arguments name arguments true (Some (ident_at text (place word))) ∷ frames)
    ((tokens ++ word ∷ []) ++ mark ∷ [])
TakesLabel frames tokens = Unit {0}

takes_label : (all : List Frame) (taken : List Token) → Around all taken → TakesLabel all taken
takes_label all taken (first_argument_front frames before names labels mark_open name with_name None
    outer stands opens own) =
    λ text word mark is divides. subst
    (λ t. Around (in_arguments name [] true (Some (ident_at text (place word))) ∷ frames) t)
    (grown_two before names (mark_open ∷ labels) word mark) (first_argument_front frames before
    names (labels ++ word ∷ mark ∷ []) mark_open name true (Some (ident_at text (place word))) outer
    stands opens (label_grows labels text word mark own is divides))
takes_label all taken (next_argument_front frames before names tokens labels mark_open after name
    arguments with_name None outer stands opens held some parts own) =
    λ text word mark is divides. subst
    (λ t. Around (in_arguments name arguments true (Some (ident_at text (place word))) ∷ frames) t)
    (ap (λ t. before ++ (names ++ mark_open ∷ t))
    (sym (append_assoc tokens (after ∷ labels) (word ∷ mark ∷ []))) ∙ grown_two before names
    (mark_open ∷ (tokens ++ after ∷ labels)) word mark) (next_argument_front frames before names
    tokens (labels ++ word ∷ mark ∷ []) mark_open after name arguments true
    (Some (ident_at text (place word))) outer stands opens held some parts
    (label_grows labels text word mark own is divides))
takes_label all taken outer = tt

labelled_keeps : (frames : List Frame) (tokens : List Token) (name : Name)
    (arguments : List Argument) (with_name : Bool) (text : List ℕ) (word token : Token) →
    token.kind ≡ mark_word (codes ":") →
    Around (in_arguments name arguments with_name None ∷ frames) tokens →
    word.kind ≡ kind.Word text →
    HoldsAt (labelled_step (ident_at text (place word)) (in_arguments name arguments with_name None
    ∷ frames)) ((tokens ++ word ∷ []) ++ token ∷ [])
labelled_keeps frames tokens name arguments with_name text word token divides outer is =
    is_wanted (in_arguments name arguments true (Some (ident_at text (place word))) ∷ frames)
    ((tokens ++ word ∷ []) ++ token ∷ []) (takes_label (in_arguments name arguments with_name None
    ∷ frames) tokens outer text word token is divides)

identifier_keeps : (limit : ℕ) (frames : List Frame) (tokens : List Token) (name : Name)
    (arguments : List Argument) (with_name : Bool) (text : List ℕ) (word : Token) (sort : Sort)
    (token : Token) → IsOf sort token.kind →
    Around (in_arguments name arguments with_name None ∷ frames) tokens →
    word.kind ≡ kind.Word text →
    HoldsAt (identifier_step limit (ident_at text (place word))
    (in_arguments name arguments with_name None ∷ frames) sort (place token))
    ((tokens ++ word ∷ []) ++ token ∷ [])
identifier_keeps limit frames tokens name arguments with_name text word colon token divides outer
    is =
    labelled_keeps frames tokens name arguments with_name text word token divides outer is
identifier_keeps limit frames tokens name arguments with_name text word sort token own_is outer is =
    part_keeps limit (first_part text (place word)) (in_arguments name arguments with_name None
    ∷ frames) tokens (word ∷ []) sort token own_is outer (first_part_stands text word is)
    (not_empty (ident_at text (place word)) [])

colon_wanted_keeps : (frames : List Frame) (tokens : List Token) (name : Name)
    (arguments : List Argument) (with_name : Bool) (text : List ℕ) (word : Token) (sort : Sort)
    (token : Token) → IsOf sort token.kind →
    Around (in_arguments name arguments with_name None ∷ frames) tokens →
    word.kind ≡ kind.Word text →
    HoldsAt (colon_wanted_step (ident_at text (place word)) (in_arguments name arguments with_name
    None ∷ frames) sort) ((tokens ++ word ∷ []) ++ token ∷ [])
colon_wanted_keeps frames tokens name arguments with_name text word colon token divides outer is =
    labelled_keeps frames tokens name arguments with_name text word token divides outer is
colon_wanted_keeps frames tokens name arguments with_name text word sort token own_is outer is = tt

-- All modes of an operand at once.

abbrev ForExpression : Purpose → Type 0
ForExpression in_expression = Unit {0}
ForExpression (in_type head) = ⊥

-- the modes of an expression that no let's front has, without a name's part that is wanted
abbrev OfOperand : Mode → Type 0
OfOperand (part_wanted purpose path) = ⊥
OfOperand (part_read purpose path) = ForExpression purpose
OfOperand (word_read purpose name) = ForExpression purpose
OfOperand (let_begun at) = ⊥
OfOperand head_wanted = ⊥
OfOperand (type_wanted head) = ⊥
OfOperand (type_bracketed head name) = ⊥
OfOperand (type_sized head name value) = ⊥
OfOperand (deferred_wanted head name) = ⊥
OfOperand (deferred_read head name ident) = ⊥
OfOperand (deferred_closed head name ident) = ⊥
OfOperand (name_wanted head ty) = ⊥
OfOperand (equals_wanted head ty name) = ⊥
OfOperand next_wanted = ⊥
OfOperand in_wanted = ⊥
OfOperand mode = Unit {0}

read_part : (limit : ℕ) (frames : List Frame) (before heads own : List Token)
    (purpose : Purpose) (path : Path) (sort : Sort) (token : Token) → IsOf sort token.kind →
    ForExpression purpose → Around frames before → FrontStands purpose heads own →
    NameStands (path_name path) own → (path.parts ≡ [] → ⊥) →
    HoldsAt (part_step limit purpose path frames sort (place token))
    ((before ++ (heads ++ own)) ++ token ∷ [])
read_part limit frames before heads own purpose path sort token is wants outer
    (of_expression tokens) stands some =
    part_keeps limit path frames before own sort token is outer stands some
read_part limit frames before heads own purpose path sort token is wants outer (of_type _ _ _ _ _)
    stands some = absurd wants

read_word : (limit : ℕ) (frames : List Frame) (before heads own : List Token)
    (purpose : Purpose) (name : Name) (sort : Sort) (token : Token) → IsOf sort token.kind →
    ForExpression purpose → Around frames before → FrontStands purpose heads own →
    NameStands name own → HoldsAt (used_step limit purpose name frames sort (place token))
    ((before ++ (heads ++ own)) ++ token ∷ [])
read_word limit frames before heads own purpose name sort token is wants outer
    (of_expression tokens)
    stands = name_keeps limit name frames before own sort token is outer stands
read_word limit frames before heads own purpose name sort token is wants outer (of_type _ _ _ _ _)
    stands = absurd wants

pub operand_keeps : (limit : ℕ) (mode : Mode) (all : List Frame) (taken : List Token)
    (sort : Sort) (token : Token) → IsOf sort token.kind → OfOperand mode → Holds mode all taken →
    HoldsAt (mode_step limit mode all sort (place token)) (taken ++ token ∷ [])
operand_keeps limit mode all taken sort token is own (is_wanted frames tokens outer) =
    wanted_keeps limit all taken sort token is outer
operand_keeps limit mode all taken sort token is own (is_complete frames before owns tree outer
    stands) =
    complete_keeps limit frames before owns tree token sort is outer stands
operand_keeps limit mode all taken sort token is own
    (part_is_read frames before heads owns purpose path outer front stands some) =
    read_part limit frames before heads owns purpose path sort token is own outer front stands some
operand_keeps limit mode all taken sort token is own
    (word_is_read frames before heads owns purpose name outer front stands) =
    read_word limit frames before heads owns purpose name sort token is own outer front stands
operand_keeps limit mode all taken sort token is own (is_bracketed frames before names name mark
    outer
    stands opens) =
    bracketed_keeps limit name frames before names mark sort token is outer stands opens
operand_keeps limit mode all taken sort token is own
    (is_sized frames before names name mark number value outer stands opens counts) =
    sized_keeps limit name frames before names mark number value sort token is outer stands opens
    counts
operand_keeps limit mode all taken sort token is own
    (size_is_closed frames before names name mark number close value outer stands opens counts
    closes) =
    sized_closed_keeps limit name frames before names mark number close value sort token is outer
    stands opens counts closes
operand_keeps limit mode all taken sort token is own
    (no_size_is_closed frames before names name mark close outer stands opens closes) =
    unsized_closed_keeps name frames before names mark close sort token is outer stands opens closes
operand_keeps limit mode all taken sort token is own (is_first_argument frames before names name
    mark
    with_name outer stands opens) =
    first_argument_keeps limit frames before names name mark with_name sort token is outer stands
    opens
operand_keeps limit mode all taken sort token is own (argument_is_wanted frames tokens name
    arguments
    with_name outer) =
    argument_keeps limit frames taken name arguments with_name sort token is outer
operand_keeps limit mode all taken sort token is own (identifier_is_read frames tokens name
    arguments
    with_name text word outer reads) =
    identifier_keeps limit frames tokens name arguments with_name text word sort token is outer
    reads
operand_keeps limit mode all taken sort token is own (colon_is_wanted frames tokens name arguments
    with_name text word outer reads) =
    colon_wanted_keeps frames tokens name arguments with_name text word sort token is outer reads
operand_keeps limit mode all taken sort token is own
    (is_first_element frames before names sizes bracket end_bracket mark name size outer stands
    begins counts ends opens) =
    first_element_keeps limit frames before names sizes bracket end_bracket mark name size sort
    token is outer stands begins counts ends opens
operand_keeps limit mode all taken sort token is own
    (field_is_wanted frames before owns tree mark outer stands divides) =
    field_keeps tree frames before owns mark sort token is outer stands divides
operand_keeps limit mode all taken sort token is own holds = absurd own
