-- Reading a first text from the front of its words, as functions: what was read and the rest, or nothing.
use Rattle.std.specs.Prelude.{ℕ, zero, suc, ◌==◌, ◌&&◌, not, Bool, false, if◌then◌else◌}
use Rattle.std.specs.Prelude.{List, [], ◌∷◌, Option, Some, None, option_and_then, codes, map}
use Rattle.std.specs.List.{list_any}
use Rattle.std.specs.Str.{bytes_eq}
use Rattle.type_rules.specs.declared.ty.Ty.{Ty}
use Rattle.type_rules.specs.declared.ty.Arg.{Arg}
use Rattle.type_rules.specs.declared.symbol.Symbol.{Symbol}
use Rattle.type_rules.specs.declared.symbol.Symbol.TheVariants as symbol
use Rattle.type_rules.specs.Types.{plain, type_of}
use Rattle.type_rules.specs.Terms.{Term, apply, nil, terms_from}
use Rattle.type_rules.specs.Same.{same_type}
use Rattle.mdl_lexer.specs.declared.token.Kind.{Kind}
use Rattle.mdl_lexer.specs.declared.token.Kind.TheVariants as kind
use Rattle.mdl_cli.specs.Names.{prelude_names}
use Rattle.mdl_cli.specs.Words.{name_word, mark_word}
use Rattle.mdl_cli.specs.FirstText.{forms, versions}

infixl 10 ◌>>=◌
abbrev pub ◌>>=◌ : {A B : Type 0} → Option A → (A → Option B) → Option B
o >>= f = option_and_then f o

-- both are the same name, reserved word or mark
abbrev pub same_word : Kind → Kind → Bool
same_word (kind.Word a) (kind.Word b) = bytes_eq a b
same_word (kind.Reserved a) (kind.Reserved b) = a == b
same_word (kind.Mark a) (kind.Mark b) = a == b
same_word _ _ = false

-- the rest behind this word, if it comes first
unfoldable pub behind : Kind → List Kind → Option (List Kind)
behind wanted [] = None
behind wanted (word ∷ words) = if same_word wanted word then Some words else None

-- the words that stand for symbols, each with its symbol
unfoldable pub word_forms : List (Kind × Symbol)
word_forms = map (λ (row : List ℕ × Symbol). (name_word row.0, row.1)) forms

abbrev pub symbol_among : List (Kind × Symbol) → Kind → Option Symbol
symbol_among [] word = None
symbol_among (row ∷ rows) word = if same_word row.0 word then Some row.1 else symbol_among rows word

-- the symbol that a word stands for
abbrev pub symbol_of_word : Kind → Option Symbol
symbol_of_word (kind.Real text double) = if double then None else Some (symbol.Real text false)
symbol_of_word word = symbol_among word_forms word

-- the symbol that the first word stands for
unfoldable pub symbol_in : List Kind → Option (Symbol × List Kind)
symbol_in [] = None
symbol_in (word ∷ words) = symbol_of_word word >>= λ found. Some (found, words)

-- how a term of a type is read
abbrev pub Reader : Type 0
Reader = Ty → List Kind → Option (Term × List Kind)

-- the kids behind the first one, each behind a comma
unfoldable pub others_in : Reader → List Arg → List Kind → Option (List Term × List Kind)
others_in read [] words = Some ([], words)
others_in read (arg ∷ args) words = do
  comma ← behind (mark_word (codes ",")) words
  kid ← read arg.ty comma
  kids ← others_in read args kid.1
  Some (kid.0 ∷ kids.0, kids.1)

-- the kids
unfoldable pub kids_in : Reader → List Arg → List Kind → Option (List Term × List Kind)
kids_in read [] words = Some ([], words)
kids_in read (arg ∷ args) words = do
  kid ← read arg.ty words
  kids ← others_in read args kid.1
  Some (kid.0 ∷ kids.0, kids.1)

-- the kids in parentheses
unfoldable pub operands_in : Reader → List Arg → List Kind → Option (List Term × List Kind)
operands_in read args words = do
  open_mark ← behind (mark_word (codes "(")) words
  kids ← kids_in read args open_mark
  close_mark ← behind (mark_word (codes ")")) kids.1
  Some (kids.0, close_mark)

-- what stands under a symbol
unfoldable pub under : Reader → Symbol → List Kind → Option (Term × List Kind)
under read (symbol.Op name args result varying) words = do
  kids ← operands_in read args words
  Some (apply (symbol.Op name args result varying) (terms_from kids.0), kids.1)
under read s words = Some (apply s nil, words)

-- a term of a type, whose kids are read so
unfoldable pub typed_in : Reader → Reader
typed_in read ty words = do
  head ← symbol_in words
  if same_type (type_of head.0) ty then under read head.0 head.1 else None

-- a term of a type, of a height of at most so much
unfoldable pub term_in : ℕ → Reader
term_in zero ty words = None
term_in (suc height) ty words = typed_in (term_in height) ty words

-- a known version
abbrev pub is_version : Kind → Bool
is_version (kind.Real text double) = not double && list_any (bytes_eq text) versions
is_version _ = false

-- the rest behind a known version
unfoldable pub behind_version : List Kind → Option (List Kind)
behind_version [] = None
behind_version (word ∷ words) = if is_version word then Some words else None

abbrev pub if_name : Kind → List Kind → Option (List ℕ × List Kind)
if_name (kind.Word name) words = Some (name, words)
if_name _ words = None

-- a name that isn't reserved, and the rest
unfoldable pub name_in : List Kind → Option (List ℕ × List Kind)
name_in [] = None
name_in (word ∷ words) = if_name word words

-- no material of a first text is higher
abbrev pub most_height : ℕ
most_height = 5

-- the head of a material and its name, behind the version line, and the rest
unfoldable pub head_in : List Kind → Option (List ℕ × List Kind)
head_in words = do
  mdl ← behind (name_word (codes "mdl")) words
  version ← behind_version mdl
  line ← behind (mark_word (codes ";")) version
  export ← behind (name_word (codes "export")) line
  material ← behind (name_word (codes "material")) export
  named ← name_in material
  opened ← behind (mark_word (codes "(")) named.1
  closed ← behind (mark_word (codes ")")) opened
  equals ← behind (mark_word (codes "=")) closed
  Some (named.0, equals)

-- the name and the term, if the words end behind them and the name is new
abbrev pub if_ended : List ℕ × Term → List Kind → Option (List ℕ × Term)
if_ended found [] = if list_any (bytes_eq found.0) prelude_names then None else Some found
if_ended found (word ∷ words) = None

-- the name of a first text's material and its term
unfoldable pub first_in : List Kind → Option (List ℕ × Term)
first_in words = do
  head ← head_in words
  body ← term_in most_height (plain (codes "material")) head.1
  end ← behind (mark_word (codes ";")) body.1
  if_ended (head.0, body.0) end
