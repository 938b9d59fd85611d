-- A tree that is placed again has the places of the second tokens, whatever the first ones were.
use Rattle.std.proofs.Common.{◌≡◌, ap, refl, true, false, List, [], ◌∷◌, ◌++◌, Option, Some, None}
use Rattle.std.proofs.Common.{◌+◌, length, take, drop}
use Rattle.mdl_lexer.specs.declared.token.Token.{Token}
use Rattle.mdl_syntax.specs.declared.names.Ident.{Ident}
use Rattle.mdl_syntax.specs.declared.names.Name.{Name}
use Rattle.mdl_syntax.specs.declared.names.NameForm.{NameForm}
use Rattle.mdl_syntax.specs.declared.names.NameForm.TheVariants as form
use Rattle.mdl_syntax.specs.declared.types.Size.{Size}
use Rattle.mdl_syntax.specs.declared.types.Size.TheVariants as size
use Rattle.mdl_syntax.specs.declared.types.TypeTree.{TypeTree}
use Rattle.mdl_syntax.specs.Words.{name_words, type_words, frequency_words}
use Rattle.mdl_syntax.specs.Written.{number_words, label_words, write, write_initializers}
use Rattle.mdl_syntax.specs.Placed.{place_of, tokens_of, behind, placed_ident, placed_parts, placed_form}
use Rattle.mdl_syntax.specs.Placed.{placed_name, placed_size, placed_type, placed_label, placed}
use Rattle.mdl_syntax.specs.Placed.{placed_trees, placed_arguments, placed_initializers}
use Rattle.mdl_syntax.specs.Trees.{Tree, literal, named, parenthesized, unary, binary, conditional, indexed}
use Rattle.mdl_syntax.specs.Trees.{field, call, array, binding, Trees, no_trees, tree_and}
use Rattle.mdl_syntax.specs.Trees.{Arguments, no_arguments, argument_and, Initializers, no_initializers}
use Rattle.mdl_syntax.specs.Trees.{initializer_and}
use Rattle.mdl_syntax.proofs.PlacedLaws.{name_written, type_written, label_written, written}
use Rattle.mdl_syntax.proofs.PlacedLaws.{initializers_written}

pub parts_twice : (parts : List Ident) (tokens other : List Token) →
    placed_parts (placed_parts parts tokens) other ≡ placed_parts parts other
parts_twice [] tokens other = refl
parts_twice (part ∷ parts) tokens other =
    ap (λ rest. placed_ident part other ∷ rest) (parts_twice parts (drop 2 tokens) (drop 2 other))

form_twice : (own : NameForm) (tokens other : List Token) →
    placed_form (placed_form own tokens) other ≡ placed_form own other
form_twice (form.Parts true parts) tokens other =
    ap (form.Parts true) (parts_twice parts (drop 1 tokens) (drop 1 other))
form_twice (form.Parts false parts) tokens other =
    ap (form.Parts false) (parts_twice parts tokens other)
form_twice (form.Word number) tokens other = refl

pub name_twice : (name : Name) (tokens other : List Token) →
    placed_name (placed_name name tokens) other ≡ placed_name name other
name_twice name tokens other = λ i. record {
  form = form_twice name.form tokens other i;
  span = place_of (tokens_of (name_written name tokens i) other);
}

size_twice : (own : Size) (tokens other : List Token) →
    placed_size (placed_size own tokens) other ≡ placed_size own other
size_twice size.One tokens other = refl
size_twice (size.Sized number) tokens other = refl
size_twice (size.Deferred name) tokens other = refl

pub type_twice : (ty : TypeTree) (tokens other : List Token) →
    placed_type (placed_type ty tokens) other ≡ placed_type ty other
type_twice ty tokens other = λ i. record {
  name = name_twice ty.name tokens other i;
  size = size_twice ty.size (behind (name_words ty.name) 0 tokens)
      (behind (name_written ty.name tokens i) 0 other) i;
  span = place_of (tokens_of (type_written ty tokens i) other);
}

label_twice : (name : Option Ident) (tokens other : List Token) →
    placed_label (placed_label name tokens) other ≡ placed_label name other
label_twice None tokens other = refl
label_twice (Some name) tokens other = refl

mutual
  -- placed twice is placed once, with the second tokens
  pub placed_twice : (tree : Tree) (tokens other : List Token) →
      placed (placed tree tokens) other ≡ placed tree other
  placed_twice (literal lit span) tokens other = refl
  placed_twice (named name span) tokens other = λ i.
      named (name_twice name tokens other i) (place_of other)
  placed_twice (parenthesized inner span) tokens other =
      let of_inner = tokens_of (write inner) (drop 1 tokens) in λ i.
      parenthesized
      (placed_twice inner of_inner (tokens_of (written inner of_inner i) (drop 1 other)) i)
      (place_of other)
  placed_twice (unary op operand span) tokens other = λ i.
      unary op (placed_twice operand (drop 1 tokens) (drop 1 other) i) (place_of other)
  placed_twice (binary op left right span) tokens other =
      let of_left = tokens_of (write left) tokens in
      let of_right = behind (write left) 1 tokens in λ i.
      binary op (placed_twice left of_left (tokens_of (written left of_left i) other) i)
      (placed_twice right of_right (behind (written left of_left i) 1 other) i)
      (place_of other)
  placed_twice (conditional test one another span) tokens other =
      let of_test = tokens_of (write test) tokens in
      let at_one = behind (write test) 1 tokens in
      let of_one = tokens_of (write one) at_one in
      let of_another = behind (write one) 1 at_one in λ i.
      let next = behind (written test of_test i) 1 other in
      conditional (placed_twice test of_test (tokens_of (written test of_test i) other) i)
      (placed_twice one of_one (tokens_of (written one of_one i) next) i)
      (placed_twice another of_another (behind (written one of_one i) 1 next) i)
      (place_of other)
  placed_twice (indexed of at span) tokens other =
      let of_of = tokens_of (write of) tokens in
      let of_at = tokens_of (write at) (behind (write of) 1 tokens) in λ i.
      indexed (placed_twice of of_of (tokens_of (written of of_of i) other) i)
      (placed_twice at of_at
      (tokens_of (written at of_at i) (behind (written of of_of i) 1 other)) i)
      (place_of other)
  placed_twice (field of name span) tokens other =
      let of_of = tokens_of (write of) tokens in λ i.
      field (placed_twice of of_of (tokens_of (written of of_of i) other) i)
      (placed_ident name (behind (written of of_of i) 1 other)) (place_of other)
  placed_twice (call name arguments span) tokens other =
      let at_arguments = behind (name_words name) 1 tokens in λ i.
      call (name_twice name tokens other i)
      (arguments_twice arguments at_arguments (behind (name_written name tokens i) 1 other) i)
      (place_of other)
  placed_twice (array name own elements span) tokens other =
      let at_elements = behind (name_words name ++ number_words own) 3 tokens in λ i.
      array (name_twice name tokens other i) own
      (trees_twice elements at_elements
      (behind (name_written name tokens i ++ number_words own) 3 other) i)
      (place_of other)
  placed_twice (binding true initializers body span) tokens other =
      let at_first = drop 2 tokens in
      let of_body = behind (write_initializers initializers) 2 at_first in λ i.
      binding true (initializers_twice initializers at_first (drop 2 other) i)
      (placed_twice body of_body
      (behind (initializers_written initializers at_first i) 2 (drop 2 other)) i)
      (place_of other)
  placed_twice (binding false initializers body span) tokens other =
      let at_first = drop 1 tokens in
      let of_body = behind (write_initializers initializers) 1 at_first in λ i.
      binding false (initializers_twice initializers at_first (drop 1 other) i)
      (placed_twice body of_body
      (behind (initializers_written initializers at_first i) 1 (drop 1 other)) i)
      (place_of other)

  trees_twice : (trees : Trees) (tokens other : List Token) →
      placed_trees (placed_trees trees tokens) other ≡ placed_trees trees other
  trees_twice no_trees tokens other = refl
  trees_twice (tree_and tree trees) tokens other =
      let of_tree = tokens_of (write tree) tokens in
      let of_more = behind (write tree) 1 tokens in λ i.
      tree_and (placed_twice tree of_tree (tokens_of (written tree of_tree i) other) i)
      (trees_twice trees of_more (behind (written tree of_tree i) 1 other) i)

  pub arguments_twice : (arguments : Arguments) (tokens other : List Token) →
      placed_arguments (placed_arguments arguments tokens) other ≡ placed_arguments arguments other
  arguments_twice no_arguments tokens other = refl
  arguments_twice (argument_and name value span arguments) tokens other =
      let of_value = tokens_of (write value) (behind (label_words name) 0 tokens) in
      let of_more = behind (label_words name ++ write value) 1 tokens in λ i.
      let label = label_written name tokens i in
      let own = label ++ written value of_value i in
      argument_and (label_twice name tokens other i)
      (placed_twice value of_value (tokens_of (written value of_value i) (behind label 0 other)) i)
      (place_of (tokens_of own other))
      (arguments_twice arguments of_more (behind own 1 other) i)

  initializers_twice : (initializers : Initializers) (tokens other : List Token) →
      placed_initializers (placed_initializers initializers tokens) other
      ≡ placed_initializers initializers other
  initializers_twice no_initializers tokens other = refl
  initializers_twice (initializer_and frequency ty name value span initializers) tokens other =
      let at_type = behind (frequency_words frequency) 0 tokens in
      let of_value = tokens_of (write value) (drop 2 (behind (type_words ty) 0 at_type)) in
      let of_more = behind (frequency_words frequency ++ (type_words ty ++ write value)) 3 tokens in
      let type_now = behind (frequency_words frequency) 0 other in λ i.
      let name_now = behind (type_written ty at_type i) 0 type_now in
      let own = frequency_words frequency
      ++ (type_written ty at_type i ++ written value of_value i) in
      initializer_and frequency (type_twice ty at_type type_now i) (placed_ident name name_now)
      (placed_twice value of_value (tokens_of (written value of_value i) (drop 2 name_now)) i)
      (place_of (take (length own + 3) other))
      (initializers_twice initializers of_more (behind own 3 other) i)
