-- The places of a tree's parts among the tokens that it writes.
use Rattle.std.specs.Prelude.{◌≡◌, ℕ, ◌+◌, List, [], ◌∷◌, ◌++◌, Option, Some, None, length, take, drop}
use Rattle.std.specs.Prelude.{if◌then◌else◌}
use Rattle.mdl_lexer.specs.declared.token.Kind.{Kind}
use Rattle.mdl_lexer.specs.declared.token.Token.{Token}
use Rattle.mdl_syntax.specs.declared.names.Span.{Span}
use Rattle.mdl_syntax.specs.declared.names.Ident.{Ident}
use Rattle.mdl_syntax.specs.declared.names.Name.{Name}
use Rattle.mdl_syntax.specs.declared.names.NameForm.{NameForm}
use Rattle.mdl_syntax.specs.declared.names.NameForm.TheVariants as form
use Rattle.mdl_syntax.specs.declared.types.Size.{Size}
use Rattle.mdl_syntax.specs.declared.types.Size.TheVariants as size
use Rattle.mdl_syntax.specs.declared.types.TypeTree.{TypeTree}
use Rattle.mdl_syntax.specs.Words.{name_words, type_words, frequency_words}
use Rattle.mdl_syntax.specs.Written.{number_words, label_words, write, write_initializers}
use Rattle.mdl_syntax.specs.Trees.{Tree, literal, named, parenthesized, unary, binary, conditional, indexed}
use Rattle.mdl_syntax.specs.Trees.{field, call, array, binding, Trees, no_trees, tree_and}
use Rattle.mdl_syntax.specs.Trees.{Arguments, no_arguments, argument_and, Initializers, no_initializers}
use Rattle.mdl_syntax.specs.Trees.{initializer_and}

abbrev pub last_end : ℕ → List Token → ℕ
last_end end [] = end
last_end end (token ∷ tokens) = last_end token.end tokens

-- from the first byte of the first token to the last byte of the last one
abbrev pub place_of : List Token → Span
place_of [] = record { at = 0; end = 0 }
place_of (token ∷ tokens) = record { at = token.at; end = last_end token.end tokens }

-- the tokens of so many words, and those behind them and so many more
abbrev pub tokens_of : List Kind → List Token → List Token
tokens_of words tokens = take (length words) tokens

abbrev pub behind : List Kind → ℕ → List Token → List Token
behind words more tokens = drop (length words + more) tokens

abbrev pub placed_ident : Ident → List Token → Ident
placed_ident ident tokens = record { text = ident.text; span = place_of (take 1 tokens) }

abbrev pub placed_parts : List Ident → List Token → List Ident
placed_parts [] tokens = []
placed_parts (part ∷ parts) tokens = placed_ident part tokens ∷ placed_parts parts (drop 2 tokens)

abbrev pub placed_form : NameForm → List Token → NameForm
placed_form (form.Parts absolute parts) tokens =
    form.Parts absolute (placed_parts parts (if absolute then drop 1 tokens else tokens))
placed_form (form.Word number) tokens = form.Word number

abbrev pub placed_name : Name → List Token → Name
placed_name name tokens = record {
  form = placed_form name.form tokens;
  span = place_of (tokens_of (name_words name) tokens);
}

abbrev pub placed_size : Size → List Token → Size
placed_size (size.Deferred name) tokens = size.Deferred (placed_ident name (drop 2 tokens))
placed_size other tokens = other

abbrev pub placed_type : TypeTree → List Token → TypeTree
placed_type ty tokens = record {
  name = placed_name ty.name tokens;
  size = placed_size ty.size (behind (name_words ty.name) 0 tokens);
  span = place_of (tokens_of (type_words ty) tokens);
}

abbrev pub placed_label : Option Ident → List Token → Option Ident
placed_label None tokens = None
placed_label (Some name) tokens = Some (placed_ident name tokens)

-- the tree with each place taken from the tokens that it writes
abbrev mutual
  pub placed : Tree → List Token → Tree
  placed (literal lit span) tokens = literal lit (place_of tokens)
  placed (named name span) tokens = named (placed_name name tokens) (place_of tokens)
  placed (parenthesized inner span) tokens =
      parenthesized (placed inner (tokens_of (write inner) (drop 1 tokens))) (place_of tokens)
  placed (unary op operand span) tokens = unary op (placed operand (drop 1 tokens)) (place_of tokens)
  placed (binary op left right span) tokens =
      binary op (placed left (tokens_of (write left) tokens)) (placed right (behind (write left) 1 tokens))
      (place_of tokens)
  placed (conditional test one other span) tokens =
      let at_one = behind (write test) 1 tokens in
      conditional (placed test (tokens_of (write test) tokens)) (placed one (tokens_of (write one) at_one))
      (placed other (behind (write one) 1 at_one)) (place_of tokens)
  placed (indexed of at span) tokens =
      indexed (placed of (tokens_of (write of) tokens))
      (placed at (tokens_of (write at) (behind (write of) 1 tokens))) (place_of tokens)
  placed (field of name span) tokens =
      field (placed of (tokens_of (write of) tokens)) (placed_ident name (behind (write of) 1 tokens))
      (place_of tokens)
  placed (call name arguments span) tokens =
      call (placed_name name tokens) (placed_arguments arguments (behind (name_words name) 1 tokens))
      (place_of tokens)
  placed (array name size elements span) tokens =
      array (placed_name name tokens) size
      (placed_trees elements (behind (name_words name ++ number_words size) 3 tokens)) (place_of tokens)
  placed (binding braces initializers body span) tokens =
      let at_first = drop (if braces then 2 else 1) tokens in
      binding braces (placed_initializers initializers at_first)
      (placed body (behind (write_initializers initializers) (if braces then 2 else 1) at_first)) (place_of
      tokens)

  pub placed_trees : Trees → List Token → Trees
  placed_trees no_trees tokens = no_trees
  placed_trees (tree_and tree trees) tokens =
      tree_and (placed tree (tokens_of (write tree) tokens)) (placed_trees trees (behind (write tree) 1
      tokens))

  pub placed_arguments : Arguments → List Token → Arguments
  placed_arguments no_arguments tokens = no_arguments
  placed_arguments (argument_and name value span arguments) tokens =
      let own = label_words name ++ write value in
      argument_and (placed_label name tokens)
      (placed value (tokens_of (write value) (behind (label_words name) 0 tokens))) (place_of (tokens_of own
      tokens))
      (placed_arguments arguments (behind own 1 tokens))

  pub placed_initializers : Initializers → List Token → Initializers
  placed_initializers no_initializers tokens = no_initializers
  placed_initializers (initializer_and frequency ty name value span initializers) tokens =
      let at_type = behind (frequency_words frequency) 0 tokens in
      let at_name = behind (type_words ty) 0 at_type in
      let at_value = drop 2 at_name in
      let own = frequency_words frequency ++ (type_words ty ++ write value) in
      initializer_and frequency (placed_type ty at_type) (placed_ident name at_name)
      (placed value (tokens_of (write value) at_value)) (place_of (take (length own + 3) tokens))
      (placed_initializers initializers (behind own 3 tokens))

-- trees that differ in their places alone
abbrev pub IsSameButPlaces : Tree → Tree → Type 0
IsSameButPlaces one other = (tokens : List Token) → placed one tokens ≡ placed other tokens
