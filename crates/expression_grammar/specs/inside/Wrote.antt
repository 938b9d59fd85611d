-- Tokens of an expression, form by form, as the machine takes them. Where it is strict, no size is deferred.
use Rattle.std.specs.Prelude.{◌≡◌, ℕ, suc, ◌≤◌, Bool, true, false, List, [], ◌∷◌}
use Rattle.std.specs.Prelude.{◌++◌, Option, Some, None}
use Rattle.std.specs.Prelude.{codes}
use Rattle.mdl_lexer.specs.declared.token.Token.{Token}
use Rattle.mdl_lexer.specs.declared.token.Kind.TheVariants as kind
use Rattle.mdl_syntax.specs.declared.names.Name.{Name}
use Rattle.mdl_syntax.specs.declared.types.Size.TheVariants as size
use Rattle.mdl_syntax.specs.declared.types.TypeTree.{TypeTree}
use Rattle.mdl_syntax.specs.declared.types.Freq.{Freq}
use Rattle.mdl_syntax.specs.declared.expressions.Lit.{Lit}
use Rattle.mdl_syntax.specs.Trees.{Tree, literal, parenthesized, unary, binary, conditional, indexed}
use Rattle.mdl_syntax.specs.Trees.{field, call, array, binding, Argument, Initializer}
use Rattle.mdl_syntax.specs.Trees.{trees_of, arguments_of, initializers_of}
use Rattle.mdl_syntax.specs.Words.{literal_word, frequency_words}
use Rattle.mdl_syntax.specs.Written.{number_words}
use Rattle.mdl_syntax.specs.Levels.{is_unary, binary_level, is_type_word, level}
use Rattle.expression_grammar.specs.inside.Machine.{Path, span_of, from_to, across, ident_at, word_name, path_name}
use Rattle.expression_grammar.specs.inside.Machine.{first_part, absolute_path, longer_path, name_tree, argument}
use Rattle.expression_grammar.specs.inside.Machine.{type_of}
use Rattle.expression_grammar.specs.Readings.{kinds}
use Rattle.expression_grammar.specs.inside.Sound.{IsMark, IsReserved, place}

-- identifiers with `::` between them
pub data PathWrote : Path → List Token → Type 0 where
  one_part : (word : Token) (text : List ℕ) → word.kind ≡ kind.Word text →
      PathWrote (first_part text (place word)) (word ∷ [])
  absolute_part : (colon word : Token) (text : List ℕ) → IsMark colon (codes "::") →
      word.kind ≡ kind.Word text →
      PathWrote (longer_path (absolute_path (place colon)) text (place word)) (colon ∷ word ∷ [])
  longer_parts : (path : Path) (tokens : List Token) (colon word : Token) (text : List ℕ) →
      PathWrote path tokens → IsMark colon (codes "::") → word.kind ≡ kind.Word text →
      PathWrote (longer_path path text (place word)) (tokens ++ colon ∷ word ∷ [])

pub data NameWrote : Name → List Token → Type 0 where
  a_path : (path : Path) (tokens : List Token) → PathWrote path tokens → NameWrote (path_name path) tokens
  a_word : (word : Token) (number : ℕ) → word.kind ≡ kind.Reserved number → is_type_word number ≡ true →
      NameWrote (word_name number (place word)) (word ∷ [])

pub data TypeWrote (strict : Bool) : TypeTree → List Token → Type 0 where
  of_one : (name : Name) (names : List Token) → NameWrote name names →
      TypeWrote strict (type_of name size.One name.span.end) names
  of_size : (name : Name) (names : List Token) (start number close : Token) (value : ℕ) → NameWrote name names →
      IsMark start (codes "[") → number.kind ≡ kind.Int value → IsMark close (codes "]") →
      TypeWrote strict (type_of name (size.Sized value) close.end) (names ++ start ∷ number ∷ close ∷ [])
  of_deferred : (name : Name) (names : List Token) (start less word greater close : Token) (text : List ℕ) →
      strict ≡ false → NameWrote name names → IsMark start (codes "[") → IsMark less (codes "<") →
      word.kind ≡ kind.Word text → IsMark greater (codes ">") → IsMark close (codes "]") →
      TypeWrote strict (type_of name (size.Deferred (ident_at text (place word))) close.end)
      (names ++ start ∷ less ∷ word ∷ greater ∷ close ∷ [])

mutual
  pub data Wrote (strict : Bool) : Tree → List Token → Type 0 where
    a_literal : (token : Token) (lit : Lit) → token.kind ≡ literal_word lit →
        Wrote strict (literal lit (place token)) (token ∷ [])
    a_name : (name : Name) (tokens : List Token) → NameWrote name tokens →
        Wrote strict (name_tree name) tokens
    a_parenthesized : (start close : Token) (inner : Tree) (tokens : List Token) → IsMark start (codes "(") →
        Wrote strict inner tokens → IsMark close (codes ")") →
        Wrote strict (parenthesized inner (from_to start.at close.end)) (start ∷ (tokens ++ close ∷ []))
    a_unary : (op : Token) (number : ℕ) (operand : Tree) (tokens : List Token) → op.kind ≡ kind.Mark number →
        is_unary number ≡ true → 12 ≤ level operand → Wrote strict operand tokens →
        Wrote strict (unary number operand (from_to op.at (span_of operand).end)) (op ∷ tokens)
    a_binary : (op : Token) (number own : ℕ) (left right : Tree) (lefts rights : List Token) →
        op.kind ≡ kind.Mark number → binary_level number ≡ Some own → own ≤ level left →
        suc own ≤ level right → Wrote strict left lefts → Wrote strict right rights →
        Wrote strict (binary number left right (across left right)) (lefts ++ op ∷ rights)
    a_conditional : (question colon : Token) (test one other : Tree) (tests ones others : List Token) →
        IsMark question (codes "?") → IsMark colon (codes ":") → 2 ≤ level test → 1 ≤ level other →
        Wrote strict test tests → Wrote strict one ones → Wrote strict other others →
        Wrote strict (conditional test one other (across test other))
        (tests ++ question ∷ (ones ++ colon ∷ others))
    an_indexed : (start close : Token) (of at : Tree) (ofs ats : List Token) → IsMark start (codes "[") →
        IsMark close (codes "]") → 13 ≤ level of → Wrote strict of ofs → Wrote strict at ats →
        Wrote strict (indexed of at (from_to (span_of of).at close.end)) (ofs ++ start ∷ (ats ++ close ∷ []))
    a_field : (dot word : Token) (text : List ℕ) (of : Tree) (ofs : List Token) → IsMark dot (codes ".") →
        word.kind ≡ kind.Word text → 13 ≤ level of → Wrote strict of ofs →
        Wrote strict (field of (ident_at text (place word)) (from_to (span_of of).at word.end))
        (ofs ++ dot ∷ word ∷ [])
    a_call : (start close : Token) (name : Name) (arguments : List Argument) (names tokens : List Token) →
        NameWrote name names → IsMark start (codes "(") → ArgumentsWrote strict arguments tokens →
        IsMark close (codes ")") →
        Wrote strict (call name (arguments_of arguments) (from_to name.span.at close.end))
        (names ++ start ∷ (tokens ++ close ∷ []))
    an_array : (bracket end_bracket start close : Token) (name : Name) (own : Option ℕ) (elements : List Tree)
        (names sizes tokens : List Token) → NameWrote name names → IsMark bracket (codes "[") →
        number_words own ≡ kinds sizes → IsMark end_bracket (codes "]") → IsMark start (codes "(") →
        TreesWrote strict elements tokens → IsMark close (codes ")") →
        Wrote strict (array name own (trees_of elements) (from_to name.span.at close.end))
        (names ++ bracket ∷ (sizes ++ end_bracket ∷ start ∷ (tokens ++ close ∷ [])))
    a_plain_let : (word in_token : Token) (initializer : Initializer) (body : Tree) (tokens bodies : List Token) →
        IsReserved word (codes "let") → InitializerWrote strict initializer tokens →
        IsReserved in_token (codes "in") → Wrote strict body bodies →
        Wrote strict (binding false (initializers_of (initializer ∷ [])) body (from_to word.at (span_of body).end))
        (word ∷ (tokens ++ in_token ∷ bodies))
    a_braced_let : (word brace close in_token : Token) (first : Initializer) (more : List Initializer) (body : Tree)
        (firsts others bodies : List Token) →
        IsReserved word (codes "let") → IsMark brace (codes "{") → InitializerWrote strict first firsts →
        InitializersWrote strict more others → IsMark close (codes "}") → IsReserved in_token (codes "in") →
        Wrote strict body bodies →
        Wrote strict (binding true (initializers_of (first ∷ more)) body (from_to word.at (span_of body).end))
        (word ∷ brace ∷ (firsts ++ (others ++ close ∷ in_token ∷ bodies)))

  -- an argument, whether one before it was named, and whether one was with it
  pub data ArgumentWrote (strict : Bool) : Bool → Bool → Argument → List Token → Type 0 where
    plain : (value : Tree) (tokens : List Token) → Wrote strict value tokens →
        ArgumentWrote strict false false (argument None value) tokens
    labelled : (before : Bool) (word colon : Token) (text : List ℕ) (value : Tree) (tokens : List Token) →
        word.kind ≡ kind.Word text → IsMark colon (codes ":") → Wrote strict value tokens →
        ArgumentWrote strict before true (argument (Some (ident_at text (place word))) value)
        (word ∷ colon ∷ tokens)

  -- arguments behind others
  pub data MoreArgumentsWrote (strict : Bool) : Bool → List Argument → List Token → Type 0 where
    no_more_arguments : (before : Bool) → MoreArgumentsWrote strict before [] []
    one_more_argument : (before with_it : Bool) (comma : Token) (first : Argument) (more : List Argument)
        (tokens others : List Token) → IsMark comma (codes ",") →
        ArgumentWrote strict before with_it first tokens → MoreArgumentsWrote strict with_it more others →
        MoreArgumentsWrote strict before (first ∷ more) (comma ∷ (tokens ++ others))

  pub data ArgumentsWrote (strict : Bool) : List Argument → List Token → Type 0 where
    no_arguments : ArgumentsWrote strict [] []
    some_arguments : (with_it : Bool) (first : Argument) (more : List Argument) (tokens others : List Token) →
        ArgumentWrote strict false with_it first tokens → MoreArgumentsWrote strict with_it more others →
        ArgumentsWrote strict (first ∷ more) (tokens ++ others)

  pub data MoreTreesWrote (strict : Bool) : List Tree → List Token → Type 0 where
    no_more_trees : MoreTreesWrote strict [] []
    one_more_tree : (comma : Token) (first : Tree) (more : List Tree) (tokens others : List Token) →
        IsMark comma (codes ",") → Wrote strict first tokens → MoreTreesWrote strict more others →
        MoreTreesWrote strict (first ∷ more) (comma ∷ (tokens ++ others))

  pub data TreesWrote (strict : Bool) : List Tree → List Token → Type 0 where
    no_trees : TreesWrote strict [] []
    some_trees : (first : Tree) (more : List Tree) (tokens others : List Token) →
        Wrote strict first tokens → MoreTreesWrote strict more others →
        TreesWrote strict (first ∷ more) (tokens ++ others)

  pub data InitializerWrote (strict : Bool) : Initializer → List Token → Type 0 where
    with_frequency : (front word equals semicolon : Token) (frequency : Freq) (ty : TypeTree) (text : List ℕ)
        (value : Tree) (types tokens : List Token) →
        frequency_words (Some frequency) ≡ front.kind ∷ [] → TypeWrote strict ty types →
        word.kind ≡ kind.Word text → IsMark equals (codes "=") → Wrote strict value tokens →
        IsMark semicolon (codes ";") →
        InitializerWrote strict
        (Some frequency, ty, ident_at text (place word), value, from_to front.at semicolon.end)
        (front ∷ (types ++ word ∷ equals ∷ (tokens ++ semicolon ∷ [])))
    without_frequency : (word equals semicolon : Token) (ty : TypeTree) (text : List ℕ) (value : Tree)
        (types tokens : List Token) → TypeWrote strict ty types →
        word.kind ≡ kind.Word text → IsMark equals (codes "=") → Wrote strict value tokens →
        IsMark semicolon (codes ";") →
        InitializerWrote strict
        (None, ty, ident_at text (place word), value, from_to ty.span.at semicolon.end)
        (types ++ word ∷ equals ∷ (tokens ++ semicolon ∷ []))

  pub data InitializersWrote (strict : Bool) : List Initializer → List Token → Type 0 where
    no_initializers : InitializersWrote strict [] []
    one_more_initializer : (first : Initializer) (more : List Initializer) (tokens others : List Token) →
        InitializerWrote strict first tokens → InitializersWrote strict more others →
        InitializersWrote strict (first ∷ more) (tokens ++ others)
