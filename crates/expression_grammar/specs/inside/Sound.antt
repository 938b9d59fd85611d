-- Which tokens a state of the machine stands for: those that it has taken.
use Rattle.std.specs.Prelude.{◌≡◌, ℕ, Bool, true, false, List, [], ◌∷◌, ◌++◌, Option, None, codes}
use Rattle.mdl_lexer.specs.declared.token.Token.{Token}
use Rattle.mdl_lexer.specs.declared.token.Kind.TheVariants as kind
use Rattle.mdl_lexer.specs.Kinds.{mark_word, name_word}
use Rattle.mdl_syntax.specs.declared.names.Span.{Span}
use Rattle.mdl_syntax.specs.declared.names.Ident.{Ident}
use Rattle.mdl_syntax.specs.declared.names.Name.{Name}
use Rattle.mdl_syntax.specs.declared.types.TypeTree.{TypeTree}
use Rattle.mdl_syntax.specs.Trees.{Tree, Argument, Initializer}
use Rattle.mdl_syntax.specs.Words.{frequency_words}
use Rattle.mdl_syntax.specs.Written.{number_words}
use Rattle.mdl_syntax.specs.Placed.{place_of}
use Rattle.expression_grammar.specs.inside.Machine.{Frame, Mode, Path, Head, Let, Purpose, from_to, path_name}
use Rattle.expression_grammar.specs.inside.Machine.{in_parentheses, behind_unary, behind_infix, behind_question}
use Rattle.expression_grammar.specs.inside.Machine.{behind_colon, in_index, in_arguments, in_elements, in_let}
use Rattle.expression_grammar.specs.inside.Machine.{in_initializer, in_body, absolute_path, ident_at}
use Rattle.expression_grammar.specs.inside.Machine.{wanted, complete, part_wanted, part_read, word_read, bracketed}
use Rattle.expression_grammar.specs.inside.Machine.{sized, sized_closed, unsized_closed, first_argument}
use Rattle.expression_grammar.specs.inside.Machine.{argument_wanted, identifier_read, colon_wanted, first_element}
use Rattle.expression_grammar.specs.inside.Machine.{field_wanted, let_begun, head_wanted, type_wanted, type_bracketed}
use Rattle.expression_grammar.specs.inside.Machine.{type_sized, name_wanted, equals_wanted, next_wanted, in_wanted}
use Rattle.expression_grammar.specs.inside.Machine.{deferred_wanted, deferred_read, deferred_closed}
use Rattle.expression_grammar.specs.inside.Machine.{in_expression, in_type}
use Rattle.expression_grammar.specs.Readings.{kinds}
use Rattle.expression_grammar.specs.inside.Stands.{Stands, NameStands, TypeStands, LabelStands}
use Rattle.expression_grammar.specs.inside.Stands.{ArgumentsStand, TreesStand, InitializersStand}
use Rattle.expression_grammar.specs.inside.Sorts.{IsOf}
use Rattle.expression_grammar.specs.inside.Machine.{Sort, complete_step, goes}

-- a token of this mark, and one of this reserved word
pub record IsMark (token : Token) (text : List ℕ) : Type 0 where
  pub is : token.kind ≡ mark_word text

pub record IsReserved (token : Token) (text : List ℕ) : Type 0 where
  pub is : token.kind ≡ name_word text

-- `let`, `{` if it is written, and initializers
pub data LetStands : Let → List Token → Type 0 where
  with_braces : (word brace : Token) (initializers : List Initializer) (tokens : List Token) →
      IsReserved word (codes "let") → IsMark brace (codes "{") → InitializersStand initializers tokens →
      LetStands (record { at = word.at; braces = true; initializers = initializers }) (word ∷ brace ∷ tokens)
  without : (word : Token) (initializers : List Initializer) (tokens : List Token) →
      IsReserved word (codes "let") → InitializersStand initializers tokens →
      LetStands (record { at = word.at; braces = false; initializers = initializers }) (word ∷ tokens)

-- the front of an initializer: its frequency, if one is written. Where none is, it begins with its type
pub data HeadStands : Head → List Token → Type 0 where
  with_frequency : (word : Token) (head : Head) → head.at ≡ word.at →
      frequency_words head.frequency ≡ word.kind ∷ [] → HeadStands head (word ∷ [])
  without_frequency : (head : Head) → head.frequency ≡ None → HeadStands head []

-- the tokens that each unfinished form has behind it, the outermost first
pub data Around : List Frame → List Token → Type 0 where
  nothing : Around [] []
  parentheses : (frames : List Frame) (before : List Token) (mark : Token) →
      Around frames before → IsMark mark (codes "(") →
      Around (in_parentheses mark.at ∷ frames) (before ++ mark ∷ [])
  unary_front : (frames : List Frame) (before : List Token) (op : Token) (number : ℕ) →
      Around frames before → op.kind ≡ kind.Mark number →
      Around (behind_unary number op.at ∷ frames) (before ++ op ∷ [])
  binary_front : (frames : List Frame) (before lefts : List Token) (op : Token) (number level : ℕ) (left : Tree) →
      Around frames before → Stands left lefts → op.kind ≡ kind.Mark number →
      Around (behind_infix number level left ∷ frames) (before ++ (lefts ++ op ∷ []))
  question_front : (frames : List Frame) (before tests : List Token) (question : Token) (test : Tree) →
      Around frames before → Stands test tests → IsMark question (codes "?") →
      Around (behind_question test ∷ frames) (before ++ (tests ++ question ∷ []))
  colon_front : (frames : List Frame) (before tests ones : List Token) (question colon : Token) (test one : Tree) →
      Around frames before → Stands test tests → IsMark question (codes "?") → Stands one ones →
      IsMark colon (codes ":") →
      Around (behind_colon test one ∷ frames) (before ++ (tests ++ question ∷ (ones ++ colon ∷ [])))
  index_front : (frames : List Frame) (before ofs : List Token) (mark : Token) (of : Tree) →
      Around frames before → Stands of ofs → IsMark mark (codes "[") →
      Around (in_index of ∷ frames) (before ++ (ofs ++ mark ∷ []))
  first_argument_front : (frames : List Frame) (before names labels : List Token) (mark : Token) (name : Name)
      (with_name : Bool) (label : Option Ident) →
      Around frames before → NameStands name names → IsMark mark (codes "(") → LabelStands label labels →
      Around (in_arguments name [] with_name label ∷ frames) (before ++ (names ++ mark ∷ labels))
  next_argument_front : (frames : List Frame) (before names tokens labels : List Token) (mark comma : Token)
      (name : Name) (arguments : List Argument) (with_name : Bool) (label : Option Ident) →
      Around frames before → NameStands name names → IsMark mark (codes "(") →
      ArgumentsStand arguments tokens → (arguments ≡ [] → ⊥) → IsMark comma (codes ",") →
      LabelStands label labels →
      Around (in_arguments name arguments with_name label ∷ frames)
      (before ++ (names ++ mark ∷ (tokens ++ comma ∷ labels)))
  first_element_front : (frames : List Frame) (before names sizes : List Token) (bracket end_bracket mark : Token)
      (name : Name) (size : Option ℕ) →
      Around frames before → NameStands name names → IsMark bracket (codes "[") →
      number_words size ≡ kinds sizes → IsMark end_bracket (codes "]") → IsMark mark (codes "(") →
      Around (in_elements name size [] ∷ frames)
      (before ++ (names ++ bracket ∷ (sizes ++ end_bracket ∷ mark ∷ [])))
  next_element_front : (frames : List Frame) (before names sizes tokens : List Token)
      (bracket end_bracket mark comma : Token) (name : Name) (size : Option ℕ) (trees : List Tree) →
      Around frames before → NameStands name names → IsMark bracket (codes "[") →
      number_words size ≡ kinds sizes → IsMark end_bracket (codes "]") → IsMark mark (codes "(") →
      TreesStand trees tokens → (trees ≡ [] → ⊥) → IsMark comma (codes ",") →
      Around (in_elements name size trees ∷ frames)
      (before ++ (names ++ bracket ∷ (sizes ++ end_bracket ∷ mark ∷ (tokens ++ comma ∷ []))))
  let_front : (frames : List Frame) (before tokens : List Token) (held : Let) →
      Around frames before → LetStands held tokens → Around (in_let held ∷ frames) (before ++ tokens)
  initializer_front : (frames : List Frame) (before tokens heads types : List Token) (word equals : Token)
      (held : Let) (head : Head) (ty : TypeTree) (text : List ℕ) →
      Around frames before → LetStands held tokens → HeadStands head heads → TypeStands ty types →
      head.at ≡ (place_of (heads ++ types)).at → word.kind ≡ kind.Word text → IsMark equals (codes "=") →
      Around (in_initializer held head ty (record { text = text; span = from_to word.at word.end }) ∷ frames)
      (before ++ (tokens ++ (heads ++ (types ++ word ∷ equals ∷ []))))
  body_front : (frames : List Frame) (before tokens : List Token) (in_token : Token) (held : Let) →
      Around frames before → LetStands held tokens → held.braces ≡ false →
      IsReserved in_token (codes "in") → Around (in_body held ∷ frames) (before ++ (tokens ++ in_token ∷ []))
  braced_body_front : (frames : List Frame) (before tokens : List Token) (close in_token : Token) (held : Let) →
      Around frames before → LetStands held tokens → held.braces ≡ true → IsMark close (codes "}") →
      IsReserved in_token (codes "in") →
      Around (in_body held ∷ frames) (before ++ (tokens ++ close ∷ in_token ∷ []))

abbrev pub place : Token → Span
place token = from_to token.at token.end

-- a name of identifiers behind which a part is wanted: `::`, or a name and `::`
pub data PathOpens : Path → List Token → Type 0 where
  absolute_front : (colon : Token) → IsMark colon (codes "::") →
      PathOpens (absolute_path (place colon)) (colon ∷ [])
  longer_front : (path : Path) (names : List Token) (colon : Token) →
      NameStands (path_name path) names → (path.parts ≡ [] → ⊥) → IsMark colon (codes "::") →
      PathOpens path (names ++ colon ∷ [])

-- what stands in front of a name by its purpose, where these are the tokens of the name so far
pub data FrontStands : Purpose → List Token → List Token → Type 0 where
  of_expression : (own : List Token) → FrontStands in_expression [] own
  of_type : (head : Head) (heads own : List Token) → HeadStands head heads →
      head.at ≡ (place_of (heads ++ own)).at → FrontStands (in_type head) heads own

-- the tokens that the machine has taken where it is in this state
pub data Holds : Mode → List Frame → List Token → Type 0 where
  is_wanted : (frames : List Frame) (tokens : List Token) → Around frames tokens → Holds wanted frames tokens
  is_complete : (frames : List Frame) (before own : List Token) (tree : Tree) →
      Around frames before → Stands tree own → Holds (complete tree) frames (before ++ own)
  part_is_wanted : (frames : List Frame) (before heads own : List Token) (purpose : Purpose) (path : Path) →
      Around frames before → FrontStands purpose heads own → PathOpens path own →
      Holds (part_wanted purpose path) frames (before ++ (heads ++ own))
  part_is_read : (frames : List Frame) (before heads own : List Token) (purpose : Purpose) (path : Path) →
      Around frames before → FrontStands purpose heads own → NameStands (path_name path) own →
      (path.parts ≡ [] → ⊥) → Holds (part_read purpose path) frames (before ++ (heads ++ own))
  word_is_read : (frames : List Frame) (before heads own : List Token) (purpose : Purpose) (name : Name) →
      Around frames before → FrontStands purpose heads own → NameStands name own →
      Holds (word_read purpose name) frames (before ++ (heads ++ own))
  is_bracketed : (frames : List Frame) (before names : List Token) (name : Name) (mark : Token) →
      Around frames before → NameStands name names → IsMark mark (codes "[") →
      Holds (bracketed name) frames (before ++ (names ++ mark ∷ []))
  is_sized : (frames : List Frame) (before names : List Token) (name : Name) (mark number : Token) (value : ℕ) →
      Around frames before → NameStands name names → IsMark mark (codes "[") → number.kind ≡ kind.Int value →
      Holds (sized name value (place number)) frames (before ++ (names ++ mark ∷ number ∷ []))
  size_is_closed : (frames : List Frame) (before names : List Token) (name : Name) (mark number close : Token)
      (value : ℕ) →
      Around frames before → NameStands name names → IsMark mark (codes "[") → number.kind ≡ kind.Int value →
      IsMark close (codes "]") →
      Holds (sized_closed name value (place number) close.end) frames
      (before ++ (names ++ mark ∷ number ∷ close ∷ []))
  no_size_is_closed : (frames : List Frame) (before names : List Token) (name : Name) (mark close : Token) →
      Around frames before → NameStands name names → IsMark mark (codes "[") → IsMark close (codes "]") →
      Holds (unsized_closed name) frames (before ++ (names ++ mark ∷ close ∷ []))
  is_first_argument : (frames : List Frame) (before names : List Token) (name : Name) (mark : Token)
      (with_name : Bool) →
      Around frames before → NameStands name names → IsMark mark (codes "(") →
      Holds first_argument (in_arguments name [] with_name None ∷ frames) (before ++ (names ++ mark ∷ []))
  argument_is_wanted : (frames : List Frame) (tokens : List Token) (name : Name) (arguments : List Argument)
      (with_name : Bool) →
      Around (in_arguments name arguments with_name None ∷ frames) tokens →
      Holds argument_wanted (in_arguments name arguments with_name None ∷ frames) tokens
  identifier_is_read : (frames : List Frame) (tokens : List Token) (name : Name) (arguments : List Argument)
      (with_name : Bool) (text : List ℕ) (word : Token) →
      Around (in_arguments name arguments with_name None ∷ frames) tokens → word.kind ≡ kind.Word text →
      Holds (identifier_read (ident_at text (place word)))
      (in_arguments name arguments with_name None ∷ frames) (tokens ++ word ∷ [])
  colon_is_wanted : (frames : List Frame) (tokens : List Token) (name : Name) (arguments : List Argument)
      (with_name : Bool) (text : List ℕ) (word : Token) →
      Around (in_arguments name arguments with_name None ∷ frames) tokens → word.kind ≡ kind.Word text →
      Holds (colon_wanted (ident_at text (place word)))
      (in_arguments name arguments with_name None ∷ frames) (tokens ++ word ∷ [])
  is_first_element : (frames : List Frame) (before names sizes : List Token) (bracket end_bracket mark : Token)
      (name : Name) (size : Option ℕ) →
      Around frames before → NameStands name names → IsMark bracket (codes "[") →
      number_words size ≡ kinds sizes → IsMark end_bracket (codes "]") → IsMark mark (codes "(") →
      Holds first_element (in_elements name size [] ∷ frames)
      (before ++ (names ++ bracket ∷ (sizes ++ end_bracket ∷ mark ∷ [])))
  field_is_wanted : (frames : List Frame) (before own : List Token) (tree : Tree) (dot : Token) →
      Around frames before → Stands tree own → IsMark dot (codes ".") →
      Holds (field_wanted tree) frames (before ++ (own ++ dot ∷ []))
  let_is_begun : (frames : List Frame) (before : List Token) (word : Token) →
      Around frames before → IsReserved word (codes "let") →
      Holds (let_begun word.at) frames (before ++ word ∷ [])
  head_is_wanted : (frames : List Frame) (before : List Token) → Around frames before →
      Holds head_wanted frames before
  type_is_wanted : (frames : List Frame) (before : List Token) (word : Token) (head : Head) →
      Around frames before → head.at ≡ word.at → frequency_words head.frequency ≡ word.kind ∷ [] →
      Holds (type_wanted head) frames (before ++ word ∷ [])
  type_is_bracketed : (frames : List Frame) (before heads names : List Token) (head : Head) (name : Name)
      (mark : Token) →
      Around frames before → FrontStands (in_type head) heads names → NameStands name names →
      IsMark mark (codes "[") →
      Holds (type_bracketed head name) frames (before ++ (heads ++ (names ++ mark ∷ [])))
  type_is_sized : (frames : List Frame) (before heads names : List Token) (head : Head) (name : Name)
      (mark number : Token) (value : ℕ) →
      Around frames before → FrontStands (in_type head) heads names → NameStands name names →
      IsMark mark (codes "[") → number.kind ≡ kind.Int value →
      Holds (type_sized head name value) frames (before ++ (heads ++ (names ++ mark ∷ number ∷ [])))
  deferred_is_wanted : (frames : List Frame) (before heads names : List Token) (head : Head) (name : Name)
      (mark less : Token) →
      Around frames before → FrontStands (in_type head) heads names → NameStands name names →
      IsMark mark (codes "[") → IsMark less (codes "<") →
      Holds (deferred_wanted head name) frames (before ++ (heads ++ (names ++ mark ∷ less ∷ [])))
  deferred_is_read : (frames : List Frame) (before heads names : List Token) (head : Head) (name : Name)
      (mark less word : Token) (text : List ℕ) →
      Around frames before → FrontStands (in_type head) heads names → NameStands name names →
      IsMark mark (codes "[") → IsMark less (codes "<") → word.kind ≡ kind.Word text →
      Holds (deferred_read head name (ident_at text (place word))) frames
      (before ++ (heads ++ (names ++ mark ∷ less ∷ word ∷ [])))
  deferred_is_closed : (frames : List Frame) (before heads names : List Token) (head : Head) (name : Name)
      (mark less word greater : Token) (text : List ℕ) →
      Around frames before → FrontStands (in_type head) heads names → NameStands name names →
      IsMark mark (codes "[") → IsMark less (codes "<") → word.kind ≡ kind.Word text →
      IsMark greater (codes ">") →
      Holds (deferred_closed head name (ident_at text (place word))) frames
      (before ++ (heads ++ (names ++ mark ∷ less ∷ word ∷ greater ∷ [])))
  name_is_wanted : (frames : List Frame) (before heads types : List Token) (head : Head) (ty : TypeTree) →
      Around frames before → FrontStands (in_type head) heads types → TypeStands ty types →
      Holds (name_wanted head ty) frames (before ++ (heads ++ types))
  equals_is_wanted : (frames : List Frame) (before heads types : List Token) (head : Head) (ty : TypeTree)
      (text : List ℕ) (word : Token) →
      Around frames before → FrontStands (in_type head) heads types → TypeStands ty types →
      word.kind ≡ kind.Word text →
      Holds (equals_wanted head ty (ident_at text (place word))) frames
      (before ++ (heads ++ (types ++ word ∷ [])))
  next_is_wanted : (frames : List Frame) (tokens : List Token) (held : Let) →
      Around (in_let held ∷ frames) tokens → held.braces ≡ true →
      Holds next_wanted (in_let held ∷ frames) tokens
  in_is_wanted : (frames : List Frame) (tokens : List Token) (held : Let) →
      Around (in_let held ∷ frames) tokens → held.braces ≡ false →
      Holds in_wanted (in_let held ∷ frames) tokens
  in_is_wanted_closed : (frames : List Frame) (before tokens : List Token) (held : Let) (close : Token) →
      Around frames before → LetStands held tokens → held.braces ≡ true → IsMark close (codes "}") →
      Holds in_wanted (in_let held ∷ frames) (before ++ (tokens ++ close ∷ []))

-- what the machine goes on to behind an expression holds again
abbrev pub CompleteSound : Type 0
CompleteSound =
    (limit : ℕ) (frames : List Frame) (before own : List Token) (tree : Tree) (token : Token) (sort : Sort)
    (next : Mode) (below : List Frame) → IsOf sort token.kind → Around frames before → Stands tree own →
    complete_step limit tree frames sort (place token) ≡ goes next below →
    Holds next below ((before ++ own) ++ token ∷ [])
