-- Deferred sizes: a tree without `[` and `<` beside each other has none; what `<` does behind `[`.
use Rattle.std.proofs.Common.{◌≡◌, ◌∙◌, ◌⊎◌, inl, inr, sym, ap, subst, refl, ℕ, suc, ◌+◌, nat_le}
use Rattle.std.proofs.Common.{Bool, true}
use Rattle.std.proofs.Common.{false, List, [], ◌∷◌, length, codes, if◌then◌else◌, ◌++◌}
use Rattle.mdl_lexer.specs.Kinds.{mark_word, name_word}
use Rattle.mdl_lexer.specs.declared.token.Token.{Token}
use Rattle.mdl_syntax.specs.declared.names.Span.{Span}
use Rattle.mdl_syntax.specs.declared.names.Name.{Name}
use Rattle.mdl_syntax.specs.Levels.{mark_number}
use Rattle.expression_grammar.specs.inside.Machine.{Frame, Mode, Sort, Step, Head, goes, bad, deep}
use Rattle.expression_grammar.specs.inside.Machine.{is_left_out}
use Rattle.expression_grammar.specs.inside.Machine.{wanted, complete, part_read, word_read}
use Rattle.expression_grammar.specs.inside.Machine.{sized, sized_closed, first_argument}
use Rattle.expression_grammar.specs.inside.Machine.{argument_wanted, identifier_read, first_element}
use Rattle.expression_grammar.specs.inside.Machine.{equals_wanted}
use Rattle.expression_grammar.specs.inside.Machine.{in_wanted, deferred_wanted}
use Rattle.expression_grammar.specs.inside.Machine.{in_expression, in_type, in_arguments}
use Rattle.expression_grammar.specs.inside.Machine.{in_elements, in_let, opening_bracket, binary_operator}
use Rattle.expression_grammar.specs.inside.Machine.{sort_of}
use Rattle.expression_grammar.specs.inside.Machine.{from_to, in_index, integer_tree, name_tree, path_name}
use Rattle.expression_grammar.specs.inside.Machine.{unless_bad, complete_step, indexed_tree, argument_step}
use Rattle.expression_grammar.specs.inside.Machine.{first_argument_step, first_element_step, mode_step}
use Rattle.expression_grammar.specs.inside.Machine.{sort_step}
use Rattle.expression_grammar.specs.inside.Machine.{step}
use Rattle.mdl_syntax.specs.Heights.{height}
use Rattle.expression_grammar.specs.inside.Sound.{IsMark}
use Rattle.std.proofs.lemmas.List.{append_assoc}
use Rattle.mdl_lexer.specs.declared.token.Kind.{Kind}
use Rattle.mdl_lexer.specs.declared.token.Kind.TheVariants as kind
use Rattle.mdl_syntax.specs.declared.types.Size.{Size}
use Rattle.mdl_syntax.specs.declared.types.Size.TheVariants as size
use Rattle.mdl_syntax.specs.Words.{ident_word, name_words, size_words, type_words, frequency_words}
use Rattle.mdl_syntax.specs.Written.{number_words, label_words, write, write_trees}
use Rattle.mdl_syntax.specs.Written.{write_more_trees}
use Rattle.mdl_syntax.specs.Written.{write_arguments, write_more_arguments, write_initializers}
use Rattle.mdl_syntax.specs.Levelled.{is_deferred, NoneDeferred, NoElementDeferred}
use Rattle.mdl_syntax.specs.Levelled.{NoArgumentDeferred}
use Rattle.mdl_syntax.specs.Levelled.{NoInitializerDeferred}
use Rattle.mdl_syntax.specs.Trees.{Tree, literal, named, parenthesized, unary, binary, conditional}
use Rattle.mdl_syntax.specs.Trees.{indexed}
use Rattle.mdl_syntax.specs.Trees.{field, call, array, binding, Trees, no_trees, tree_and}
use Rattle.mdl_syntax.specs.Trees.{Arguments}
use Rattle.mdl_syntax.specs.Trees.{no_arguments, argument_and, Initializers, no_initializers}
use Rattle.mdl_syntax.specs.Trees.{initializer_and}

-- `[` and `<` are beside each other
abbrev HasDeferred : List Kind → Type 0
HasDeferred words =
    (before : List Kind) × (rest : List Kind) × (words ≡ before ++ mark_word (codes "[") ∷ mark_word
    (codes "<") ∷ rest)

has_behind : (front words : List Kind) → HasDeferred words → HasDeferred (front ++ words)
has_behind front words (before, rest, is) = (
  front ++ before,
  rest,
  ap (λ more. front ++ more) is
      ∙ sym (append_assoc front before (mark_word (codes "[") ∷ mark_word (codes "<") ∷ rest)),
)

has_before : (words more : List Kind) → HasDeferred words → HasDeferred (words ++ more)
has_before words more (before, rest, is) = (
  before,
  rest ++ more,
  ap (λ own. own ++ more) is
      ∙ append_assoc before (mark_word (codes "[") ∷ mark_word (codes "<") ∷ rest) more,
)

behind : {A : Type 0} (front words : List Kind) → A ⊎ HasDeferred words →
    A ⊎ HasDeferred (front ++ words)
behind front words (inl none) = inl none
behind front words (inr has) = inr (has_behind front words has)

before : {A : Type 0} (words more : List Kind) → A ⊎ HasDeferred words →
    A ⊎ HasDeferred (words ++ more)
before words more (inl none) = inl none
before words more (inr has) = inr (has_before words more has)

both : {A B : Type 0} (words more : List Kind) → A ⊎ HasDeferred words → B ⊎ HasDeferred more →
    (A × B) ⊎ HasDeferred (words ++ more)
both words more (inl none) (inl also) = inl (none, also)
both words more (inr has) other = inr (has_before words more has)
both words more (inl none) (inr has) = inr (has_behind words more has)

flat : {A B C : Type 0} (words : List Kind) → (A × (B × C)) ⊎ HasDeferred words →
    (A × B × C) ⊎ HasDeferred words
flat words (inl (a, (b, c))) = inl (a, b, c)
flat words (inr has) = inr has

size_none : (own : Size) (words : List Kind) →
    (is_deferred own ≡ false) ⊎ HasDeferred (words ++ size_words own)
size_none size.One words = inl refl
size_none (size.Sized number) words = inl refl
size_none (size.Deferred name) words =
    inr (words, ident_word name ∷ mark_word (codes ">") ∷ mark_word (codes "]") ∷ [], refl)

mutual
  pub none_deferred : (tree : Tree) → NoneDeferred tree ⊎ HasDeferred (write tree)
  none_deferred (literal lit span) = inl tt
  none_deferred (named name span) = inl tt
  none_deferred (parenthesized inner span) =
      behind (mark_word (codes "(") ∷ []) (write inner ++ mark_word (codes ")") ∷ [])
      (before (write inner) (mark_word (codes ")") ∷ []) (none_deferred inner))
  none_deferred (unary op operand span) =
      behind (kind.Mark op ∷ []) (write operand) (none_deferred operand)
  none_deferred (binary op left right span) =
      both (write left) (kind.Mark op ∷ write right) (none_deferred left)
      (behind (kind.Mark op ∷ []) (write right) (none_deferred right))
  none_deferred (conditional test one other span) =
      flat (write (conditional test one other span))
      (both (write test)
      (mark_word (codes "?") ∷ (write one ++ (mark_word (codes ":") ∷ write other)))
      (none_deferred test) (behind (mark_word (codes "?") ∷ [])
      (write one ++ (mark_word (codes ":") ∷ write other))
      (both (write one) (mark_word (codes ":") ∷ write other) (none_deferred one)
      (behind (mark_word (codes ":") ∷ []) (write other) (none_deferred other)))))
  none_deferred (indexed of at span) =
      both (write of) (mark_word (codes "[") ∷ (write at ++ mark_word (codes "]") ∷ []))
      (none_deferred of) (behind (mark_word (codes "[") ∷ []) (write at ++ mark_word (codes "]")
      ∷ []) (before (write at) (mark_word (codes "]") ∷ []) (none_deferred at)))
  none_deferred (field of name span) =
      before (write of) (mark_word (codes ".") ∷ ident_word name ∷ []) (none_deferred of)
  none_deferred (call name arguments span) =
      behind (name_words name) (mark_word (codes "(") ∷ (write_arguments arguments ++ mark_word
      (codes ")") ∷ [])) (behind (mark_word (codes "(") ∷ [])
      (write_arguments arguments ++ mark_word (codes ")") ∷ []) (before (write_arguments arguments)
      (mark_word (codes ")") ∷ []) (no_argument_deferred arguments)))
  none_deferred (array name own elements span) =
      behind (name_words name)
      (mark_word (codes "[") ∷ (number_words own ++ (mark_word (codes "]") ∷ mark_word (codes "(")
      ∷ (write_trees elements ++ mark_word (codes ")") ∷ [])))) (behind (mark_word (codes "[") ∷ [])
      (number_words own ++ (mark_word (codes "]") ∷ mark_word (codes "(") ∷ (write_trees elements
      ++ mark_word (codes ")") ∷ []))) (behind (number_words own) (mark_word (codes "]") ∷ mark_word
      (codes "(") ∷ (write_trees elements ++ mark_word (codes ")") ∷ []))
      (behind (mark_word (codes "]") ∷ mark_word (codes "(") ∷ [])
      (write_trees elements ++ mark_word (codes ")") ∷ []) (before (write_trees elements)
      (mark_word (codes ")") ∷ []) (no_element_deferred elements)))))
  none_deferred (binding true initializers body span) =
      behind (name_word (codes "let") ∷ mark_word (codes "{") ∷ []) (write_initializers initializers
      ++ (mark_word (codes "}") ∷ name_word (codes "in") ∷ write body))
      (both (write_initializers initializers) (mark_word (codes "}") ∷ name_word (codes "in")
      ∷ write body) (no_initializer_deferred initializers)
      (behind (mark_word (codes "}") ∷ name_word (codes "in") ∷ []) (write body)
      (none_deferred body)))
  none_deferred (binding false initializers body span) =
      behind (name_word (codes "let") ∷ []) (write_initializers initializers
      ++ (name_word (codes "in") ∷ write body)) (both (write_initializers initializers)
      (name_word (codes "in") ∷ write body) (no_initializer_deferred initializers)
      (behind (name_word (codes "in") ∷ []) (write body) (none_deferred body)))

  no_element_deferred : (trees : Trees) → NoElementDeferred trees ⊎ HasDeferred (write_trees trees)
  no_element_deferred no_trees = inl tt
  no_element_deferred (tree_and tree trees) =
      both (write tree) (write_more_trees trees) (none_deferred tree)
      (no_more_element_deferred trees)

  no_more_element_deferred : (trees : Trees) →
      NoElementDeferred trees ⊎ HasDeferred (write_more_trees trees)
  no_more_element_deferred no_trees = inl tt
  no_more_element_deferred (tree_and tree trees) =
      behind (mark_word (codes ",") ∷ []) (write tree ++ write_more_trees trees)
      (both (write tree) (write_more_trees trees) (none_deferred tree)
      (no_more_element_deferred trees))

  no_argument_deferred : (arguments : Arguments) →
      NoArgumentDeferred arguments ⊎ HasDeferred (write_arguments arguments)
  no_argument_deferred no_arguments = inl tt
  no_argument_deferred (argument_and name value span arguments) =
      behind (label_words name) (write value ++ write_more_arguments arguments)
      (both (write value) (write_more_arguments arguments) (none_deferred value)
      (no_more_argument_deferred arguments))

  no_more_argument_deferred : (arguments : Arguments) →
      NoArgumentDeferred arguments ⊎ HasDeferred (write_more_arguments arguments)
  no_more_argument_deferred no_arguments = inl tt
  no_more_argument_deferred (argument_and name value span arguments) =
      behind (mark_word (codes ",") ∷ []) (label_words name ++ (write value ++ write_more_arguments
      arguments)) (behind (label_words name) (write value ++ write_more_arguments arguments)
      (both (write value) (write_more_arguments arguments) (none_deferred value)
      (no_more_argument_deferred arguments)))

  no_initializer_deferred : (initializers : Initializers) →
      NoInitializerDeferred initializers ⊎ HasDeferred (write_initializers initializers)
  no_initializer_deferred no_initializers = inl tt
  no_initializer_deferred (initializer_and frequency ty name value span initializers) =
      flat (write_initializers (initializer_and frequency ty name value span initializers))
      (behind (frequency_words frequency) (type_words ty ++ (ident_word name ∷ mark_word (codes "=")
      ∷ (write value ++ (mark_word (codes ";") ∷ write_initializers initializers))))
      (both (type_words ty) (ident_word name ∷ mark_word (codes "=")
      ∷ (write value ++ (mark_word (codes ";") ∷ write_initializers initializers)))
      (size_none ty.size (name_words ty.name)) (behind (ident_word name ∷ mark_word (codes "=")
      ∷ []) (write value ++ (mark_word (codes ";") ∷ write_initializers initializers))
      (both (write value) (mark_word (codes ";") ∷ write_initializers initializers)
      (none_deferred value) (behind (mark_word (codes ";") ∷ []) (write_initializers initializers)
      (no_initializer_deferred initializers))))))

-- The machine.

-- `<`
abbrev less_sort : Sort
less_sort = binary_operator (mark_number (codes "<")) 8

-- where a step leads, `<` is bad or begins a deferred size
abbrev LessBehind : ℕ → Step → Type 0
LessBehind limit (goes mode frames) = (at : Span) →
    (mode_step limit mode frames less_sort at ≡ bad) ⊎ ((head : Head) × (name : Name)
    × (mode_step limit mode frames less_sort at ≡ goes (deferred_wanted head name) frames))
LessBehind limit _ = Unit {0}

within_less : (test : Bool) (limit : ℕ) (made : Step) → LessBehind limit made →
    LessBehind limit (if test then made else deep)
within_less true limit made holds = holds
within_less false limit made holds = tt

unless_less : (limit need : ℕ) (frames : List Frame) (made : Step) → LessBehind limit made →
    LessBehind limit (unless_bad limit frames need made)
unless_less limit need frames bad holds = tt
unless_less limit need frames (goes mode below) holds =
    within_less (nat_le (length frames + need) limit) limit (goes mode below) holds
unless_less limit need frames deep holds = within_less (nat_le (length frames + need) limit) limit
    deep holds
unless_less limit need frames (is_left_out text) holds =
    within_less (nat_le (length frames + need) limit) limit (is_left_out text) holds

argument_less : (limit : ℕ) (frames : List Frame) (place : Span) →
    LessBehind limit (argument_step limit frames opening_bracket place)
argument_less limit (in_arguments name arguments true label ∷ frames) place = tt
argument_less limit _ place = tt

first_argument_less : (limit : ℕ) (frames : List Frame) (place : Span) →
    LessBehind limit (first_argument_step limit frames opening_bracket place)
first_argument_less limit (in_arguments name arguments true label ∷ frames) place = tt
first_argument_less limit _ place = tt

first_element_less : (limit : ℕ) (frames : List Frame) (place : Span) →
    LessBehind limit (first_element_step limit frames opening_bracket place)
first_element_less limit (in_elements name own trees ∷ frames) place = tt
first_element_less limit _ place = tt

mode_less : (limit : ℕ) (mode : Mode) (frames : List Frame) (place : Span) →
    LessBehind limit (mode_step limit mode frames opening_bracket place)
mode_less limit (complete tree) frames place =
    within_less (nat_le (length frames + suc (height tree)) limit) limit
    (goes wanted (in_index tree ∷ frames)) (λ at. inl refl)
mode_less limit (part_read in_expression path) frames place = λ at. inl refl
mode_less limit (part_read (in_type head) path) frames place = λ at. inr
    (head, path_name path, refl)
mode_less limit (word_read in_expression name) frames place = λ at. inl refl
mode_less limit (word_read (in_type head) name) frames place = λ at. inr (head, name, refl)
mode_less limit (sized name value at) frames place =
    let tree = integer_tree value at in let over = in_index (name_tree name) ∷ frames in
    within_less (nat_le (length over + suc (height tree)) limit) limit
    (goes wanted (in_index tree ∷ over)) (λ at. inl refl)
mode_less limit (sized_closed name value at end) frames place =
    unless_less limit 2 frames (complete_step limit (indexed_tree name value at end) frames
    opening_bracket place)
    (let tree = indexed_tree name value at end in
    within_less (nat_le (length frames + suc (height tree)) limit) limit
    (goes wanted (in_index tree ∷ frames)) (λ at. inl refl))
mode_less limit first_argument frames place = first_argument_less limit frames place
mode_less limit argument_wanted frames place = argument_less limit frames place
mode_less limit (identifier_read ident) frames place = λ at. inl refl
mode_less limit first_element frames place = first_element_less limit frames place
mode_less limit (equals_wanted head ty name) (in_let held ∷ frames) place = tt
mode_less limit in_wanted (in_let held ∷ frames) place = tt
mode_less limit _ frames place = tt

-- behind `[`, a `<` is bad or begins a deferred size
pub behind_bracket : (limit : ℕ) (mode : Mode) (frames : List Frame) (bracket : Token) (next : Mode)
    (below : List Frame) (less : Token) → IsMark bracket (codes "[") →
    step limit mode frames bracket ≡ goes next below → IsMark less (codes "<") →
    (step limit next below less ≡ bad) ⊎ ((head : Head) × (name : Name)
    × (step limit next below less ≡ goes (deferred_wanted head name) below))
behind_bracket limit mode frames bracket next below less opens goes_on is =
    subst (λ sort. (sort_step limit next below sort (from_to less.at less.end) ≡ bad)
    ⊎ ((head : Head) × (name : Name) × (sort_step limit next below sort (from_to less.at less.end)
    ≡ goes (deferred_wanted head name) below))) (sym (ap sort_of is.is))
    (less_behind (from_to less.at less.end))
  where
    here : Span
    here = from_to bracket.at bracket.end

    less_behind : LessBehind limit (goes next below)
    less_behind =
        subst (LessBehind limit) (sym (ap (λ sort. sort_step limit mode frames sort here)
        (ap sort_of opens.is)) ∙ goes_on) (mode_less limit mode frames here)
