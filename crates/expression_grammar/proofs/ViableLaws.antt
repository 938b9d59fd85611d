-- From each state that fits the machine can be led to a whole tree.
use Rattle.std.proofs.Common.{◌≡◌, ◌∙◌, refl, ℕ, suc, ◌+◌, ◌≤◌, Bool, true, false, List, [], ◌∷◌}
use Rattle.std.proofs.Common.{◌++◌}
use Rattle.std.proofs.Common.{Option, Some, None, codes, length, if◌then◌else◌, arith}
use Rattle.std.specs.Prelude.{nat_le}
use Rattle.std.proofs.lemmas.Bool.{cond-true, le-leb}
use Rattle.mdl_lexer.specs.declared.token.Token.{Token}
use Rattle.mdl_syntax.specs.declared.names.Ident.{Ident}
use Rattle.mdl_syntax.specs.declared.names.Span.{Span}
use Rattle.mdl_syntax.specs.declared.names.Name.{Name}
use Rattle.mdl_syntax.specs.declared.types.TypeTree.{TypeTree}
use Rattle.mdl_syntax.specs.Trees.{Tree, call, arguments_of, Argument}
use Rattle.expression_grammar.specs.inside.Machine.{Frame, Mode, Path, Let, Head, goes, deep}
use Rattle.expression_grammar.specs.inside.Machine.{in_expression}
use Rattle.expression_grammar.specs.inside.Machine.{in_type, behind_unary, behind_infix}
use Rattle.expression_grammar.specs.inside.Machine.{behind_colon, in_arguments}
use Rattle.expression_grammar.specs.inside.Machine.{in_elements, in_let, in_body, wanted}
use Rattle.expression_grammar.specs.inside.Machine.{complete, part_wanted, part_read, word_read, bracketed}
use Rattle.expression_grammar.specs.inside.Machine.{sized, sized_closed, unsized_closed, first_argument}
use Rattle.expression_grammar.specs.inside.Machine.{argument_wanted, identifier_read, colon_wanted}
use Rattle.expression_grammar.specs.inside.Machine.{first_element, field_wanted, let_begun, head_wanted}
use Rattle.expression_grammar.specs.inside.Machine.{type_wanted, type_bracketed, type_sized, name_wanted}
use Rattle.expression_grammar.specs.inside.Machine.{deferred_wanted, deferred_read, deferred_closed}
use Rattle.expression_grammar.specs.inside.Machine.{equals_wanted, next_wanted, in_wanted, run_from}
use Rattle.expression_grammar.specs.inside.Machine.{read_as}
use Rattle.expression_grammar.specs.inside.Machine.{from_to, name_tree, path_name, argument, ident_at}
use Rattle.expression_grammar.specs.inside.Fits.{Fits, AllSuit, AllPlain, HasRoom, ModeSuits, IsInFront}
use Rattle.expression_grammar.specs.inside.Fits.{IsInBraces, IsFilled, IsInArguments, IsInElements}
use Rattle.expression_grammar.specs.inside.Leads.{Ends}
use Rattle.expression_grammar.proofs.LeadsLaws.{read_ends}
use Rattle.expression_grammar.proofs.ShutLaws.{mark, zero_token, name_token, in_token, zero_tree, end_of}
use Rattle.expression_grammar.proofs.ShutLaws.{Reads}
use Rattle.expression_grammar.proofs.ShutLaws.{Shuts, took, zero_reads, in_reads, next_reads}
use Rattle.expression_grammar.proofs.ShutLaws.{initializer_reads}
use Rattle.expression_grammar.proofs.ShutLaws.{let_room, shut}

pub record Viable (limit : ℕ) (mode : Mode) (frames : List Frame) : Type 0 where
  pub rest : List Token
  pub tree : Tree
  pub reads : (strict : Bool) (at : ℕ) →
      run_from strict limit at (goes mode frames) rest ≡ read_as tree

made : {limit : ℕ} {mode : Mode} {frames : List Frame} {tokens : List Token} →
    Reads limit mode frames tokens → Viable limit mode frames
made {limit} {mode} {frames} {tokens} r = record { rest = tokens; tree = r.tree; reads = r.reads }

path_end : (ends : List Frame) (strict : Bool) (limit : ℕ) (path : Path) (frames : List Frame)
    (at : ℕ) → run_from strict limit at (goes (part_read in_expression path) frames) (end_of ends)
    ≡ run_from strict limit at (goes (complete (name_tree (path_name path))) frames) (end_of ends)
path_end (behind_unary op place ∷ ends) strict limit path frames at = path_end ends strict limit
    path frames at
path_end (behind_infix op own left ∷ ends) strict limit path frames at = path_end ends strict limit
    path frames at
path_end (behind_colon test first ∷ ends) strict limit path frames at = path_end ends strict limit
    path frames at
path_end (in_body held ∷ ends) strict limit path frames at = path_end ends strict limit path frames
    at
path_end _ strict limit path frames at = refl

word_end : (ends : List Frame) (strict : Bool) (limit : ℕ) (word : Name) (frames : List Frame)
    (at : ℕ) → run_from strict limit at (goes (word_read in_expression word) frames) (end_of ends)
    ≡ run_from strict limit at (goes (complete (name_tree word)) frames) (end_of ends)
word_end (behind_unary op place ∷ ends) strict limit word frames at = word_end ends strict limit
    word frames at
word_end (behind_infix op own left ∷ ends) strict limit word frames at = word_end ends strict limit
    word frames at
word_end (behind_colon test first ∷ ends) strict limit word frames at = word_end ends strict limit
    word frames at
word_end (in_body held ∷ ends) strict limit word frames at = word_end ends strict limit word frames
    at
word_end _ strict limit word frames at = refl

path_reads : (limit : ℕ) (path : Path) (frames : List Frame) → Shuts limit frames →
    Reads limit (part_read in_expression path) frames (end_of frames)
path_reads limit path frames shuts = record {
  tree = (shuts (name_tree (path_name path))).tree;
  reads = λ strict at. path_end frames strict limit path frames at
      ∙ (shuts (name_tree (path_name path))).reads strict at;
}

word_reads : (limit : ℕ) (word : Name) (frames : List Frame) → Shuts limit frames →
    Reads limit (word_read in_expression word) frames (end_of frames)
word_reads limit word frames shuts = record {
  tree = (shuts (name_tree word)).tree;
  reads = λ strict at. word_end frames strict limit word frames at
      ∙ (shuts (name_tree word)).reads strict at;
}

abbrev here : Span
here = from_to 0 0

-- behind the name of an initializer
abbrev let_end : Let → List Frame → List Token
let_end held frames =
    mark (codes "=") ∷ zero_token ∷ mark (codes ";") ∷ (if held.braces then mark (codes "}")
    ∷ in_token ∷ zero_token ∷ end_of frames else in_token ∷ zero_token ∷ end_of frames)

equals_reads : {limit : ℕ} {head : Head} {ty : TypeTree} {name : Ident} {held : Let}
    {frames : List Frame} → suc (length frames) + 1 ≤ limit → Shuts limit frames →
    Reads limit (equals_wanted head ty name) (in_let held ∷ frames) (let_end held frames)
equals_reads room shuts = took refl refl (zero_reads room (initializer_reads _ _ _ _ _ _ room shuts
    _))

name_reads : {limit : ℕ} {head : Head} {ty : TypeTree} {held : Let} {frames : List Frame} →
    suc (length frames) + 1 ≤ limit → Shuts limit frames →
    Reads limit (name_wanted head ty) (in_let held ∷ frames) (name_token ∷ let_end held frames)
name_reads room shuts = took refl refl (equals_reads room shuts)

type_word_reads : {limit : ℕ} {head : Head} {name : Name} {held : Let} {frames : List Frame} →
    suc (length frames) + 1 ≤ limit → Shuts limit frames →
    Reads limit (word_read (in_type head) name) (in_let held ∷ frames)
    (name_token ∷ let_end held frames)
type_word_reads room shuts = took refl refl (equals_reads room shuts)

type_path_reads : {limit : ℕ} {head : Head} {path : Path} {held : Let} {frames : List Frame} →
    suc (length frames) + 1 ≤ limit → Shuts limit frames →
    Reads limit (part_read (in_type head) path) (in_let held ∷ frames)
    (name_token ∷ let_end held frames)
type_path_reads room shuts = took refl refl (equals_reads room shuts)

type_part_reads : {limit : ℕ} {head : Head} {path : Path} {held : Let} {frames : List Frame} →
    suc (length frames) + 1 ≤ limit → Shuts limit frames →
    Reads limit (part_wanted (in_type head) path) (in_let held ∷ frames)
    (name_token ∷ name_token ∷ let_end held frames)
type_part_reads room shuts = took refl refl (type_path_reads room shuts)

type_reads : {limit : ℕ} {head : Head} {held : Let} {frames : List Frame} →
    suc (length frames) + 1 ≤ limit → Shuts limit frames →
    Reads limit (type_wanted head) (in_let held ∷ frames) (name_token ∷ name_token ∷ let_end held
    frames)
type_reads room shuts = took refl refl (type_path_reads room shuts)

head_reads : {limit : ℕ} {held : Let} {frames : List Frame} →
    suc (length frames) + 1 ≤ limit → Shuts limit frames →
    Reads limit head_wanted (in_let held ∷ frames) (name_token ∷ name_token ∷ let_end held frames)
head_reads room shuts = took refl refl (type_path_reads room shuts)

let_begun_reads : {limit : ℕ} {place : ℕ} {frames : List Frame} →
    suc (length frames) + 1 ≤ limit → Shuts limit frames →
    Reads limit (let_begun place) frames (name_token ∷ name_token
    ∷ let_end (record { at = place; braces = false; initializers = [] }) frames)
let_begun_reads room shuts = took refl refl (type_path_reads room shuts)

type_sized_reads : {limit : ℕ} {head : Head} {name : Name} {value : ℕ} {held : Let}
    {frames : List Frame} → suc (length frames) + 1 ≤ limit → Shuts limit frames →
    Reads limit (type_sized head name value) (in_let held ∷ frames)
    (mark (codes "]") ∷ name_token ∷ let_end held frames)
type_sized_reads room shuts = took refl refl (name_reads room shuts)

deferred_closed_reads : {limit : ℕ} {head : Head} {name : Name} {ident : Ident} {held : Let}
    {frames : List Frame} → suc (length frames) + 1 ≤ limit → Shuts limit frames →
    Reads limit (deferred_closed head name ident) (in_let held ∷ frames)
    (mark (codes "]") ∷ name_token ∷ let_end held frames)
deferred_closed_reads room shuts = took refl refl (name_reads room shuts)

deferred_read_reads : {limit : ℕ} {head : Head} {name : Name} {ident : Ident} {held : Let}
    {frames : List Frame} → suc (length frames) + 1 ≤ limit → Shuts limit frames →
    Reads limit (deferred_read head name ident) (in_let held ∷ frames) (mark (codes ">") ∷ mark
    (codes "]") ∷ name_token ∷ let_end held frames)
deferred_read_reads room shuts = took refl refl (deferred_closed_reads room shuts)

deferred_wanted_reads : {limit : ℕ} {head : Head} {name : Name} {held : Let} {frames : List Frame} →
    suc (length frames) + 1 ≤ limit → Shuts limit frames →
    Reads limit (deferred_wanted head name) (in_let held ∷ frames)
    (name_token ∷ mark (codes ">") ∷ mark (codes "]") ∷ name_token ∷ let_end held frames)
deferred_wanted_reads room shuts = took refl refl (deferred_read_reads room shuts)

type_bracketed_reads : {limit : ℕ} {head : Head} {name : Name} {held : Let} {frames : List Frame} →
    suc (length frames) + 1 ≤ limit → Shuts limit frames →
    Reads limit (type_bracketed head name) (in_let held ∷ frames)
    (zero_token ∷ mark (codes "]") ∷ name_token ∷ let_end held frames)
type_bracketed_reads room shuts = took refl refl (type_sized_reads room shuts)

-- arguments and elements
arguments_shut : (limit : ℕ) (name : Name) (arguments : List Argument) (with_name : Bool)
    (label : Option Ident) (frames : List Frame) → Shuts limit frames →
    Shuts limit (in_arguments name arguments with_name label ∷ frames)
arguments_shut limit name arguments with_name label frames shuts tree =
    let now = call name (arguments_of (arguments ++ argument label tree ∷ []))
    (from_to name.span.at 0) in
    took refl refl (shuts now)

first_argument_reads : {limit : ℕ} {name : Name} {arguments : List Argument} {with_name : Bool}
    {label : Option Ident} {frames : List Frame} → Shuts limit frames →
    Reads limit first_argument (in_arguments name arguments with_name label ∷ frames)
    (mark (codes ")") ∷ end_of frames)
first_argument_reads shuts = took refl refl (shuts _)

identifier_reads : {limit : ℕ} {ident : Ident} {name : Name} {arguments : List Argument}
    {with_name : Bool} {label : Option Ident} {frames : List Frame} → Shuts limit frames →
    Reads limit (identifier_read ident) (in_arguments name arguments with_name label ∷ frames)
    (mark (codes ")") ∷ end_of frames)
identifier_reads shuts = took refl refl (shuts _)

colon_reads : {limit : ℕ} {ident : Ident} {name : Name} {arguments : List Argument}
    {with_name : Bool} {label : Option Ident} {frames : List Frame} →
    suc (length frames) + 1 ≤ limit → Shuts limit frames →
    Reads limit (colon_wanted ident) (in_arguments name arguments with_name label ∷ frames)
    (mark (codes ":") ∷ zero_token ∷ mark (codes ")") ∷ end_of frames)
colon_reads {limit} {ident} {name} {arguments} {with_name} {label} {frames} room shuts =
    took refl refl (zero_reads room (arguments_shut limit name arguments true (Some ident) frames
    shuts _))

argument_reads : (limit : ℕ) (name : Name) (arguments : List Argument) (with_name : Bool)
    (label : Option Ident) (frames : List Frame) → suc (length frames) + 1 ≤ limit →
    Shuts limit frames → Viable limit argument_wanted (in_arguments name arguments with_name label
    ∷ frames)
argument_reads limit name arguments true label frames room shuts =
    let around_it = in_arguments name arguments true label ∷ frames in
    made (took {next = name_token} (cond-true (nat_le (length around_it + 1) limit)
    (goes (colon_wanted (ident_at (codes "x") here)) around_it) deep (le-leb (length around_it + 1)
    limit room)) refl (colon_reads room shuts))
argument_reads limit name arguments false label frames room shuts =
    let around_it = in_arguments name arguments false label ∷ frames in
    made (took {next = zero_token} (cond-true (nat_le (length around_it + 1) limit)
    (goes (complete zero_tree) around_it) deep (le-leb (length around_it + 1) limit room)) refl
    (arguments_shut limit name arguments false label frames shuts zero_tree))

first_element_reads : {limit : ℕ} {name : Name} {own : Option ℕ} {trees : List Tree}
    {frames : List Frame} → Shuts limit frames →
    Reads limit first_element (in_elements name own trees ∷ frames)
    (mark (codes ")") ∷ end_of frames)
first_element_reads shuts = took refl refl (shuts _)

unsized_reads : {limit : ℕ} {name : Name} {frames : List Frame} → Shuts limit frames →
    Reads limit (unsized_closed name) frames (mark (codes "(") ∷ mark (codes ")") ∷ end_of frames)
unsized_reads shuts = took refl refl (first_element_reads shuts)

sized_closed_reads : {limit : ℕ} {name : Name} {value : ℕ} {place : Span} {end : ℕ}
    {frames : List Frame} → Shuts limit frames →
    Reads limit (sized_closed name value place end) frames (mark (codes "(") ∷ mark (codes ")")
    ∷ end_of frames)
sized_closed_reads shuts = took refl refl (first_element_reads shuts)

sized_reads : {limit : ℕ} {name : Name} {value : ℕ} {place : Span} {frames : List Frame} →
    Shuts limit frames → Reads limit (sized name value place) frames (mark (codes "]") ∷ mark
    (codes "(") ∷ mark (codes ")") ∷ end_of frames)
sized_reads shuts = took refl refl (sized_closed_reads shuts)

bracketed_reads : {limit : ℕ} {name : Name} {frames : List Frame} → Shuts limit frames →
    Reads limit (bracketed name) frames (mark (codes "]") ∷ mark (codes "(") ∷ mark (codes ")")
    ∷ end_of frames)
bracketed_reads shuts = took refl refl (unsized_reads shuts)

part_reads : {limit : ℕ} {path : Path} {frames : List Frame} → Shuts limit frames →
    Reads limit (part_wanted in_expression path) frames (name_token ∷ end_of frames)
part_reads shuts = took refl refl (path_reads _ _ _ shuts)

field_reads : {limit : ℕ} {tree : Tree} {frames : List Frame} → Shuts limit frames →
    Reads limit (field_wanted tree) frames (name_token ∷ end_of frames)
field_reads shuts = took refl refl (shuts _)

-- the let at hand
abbrev LetReads : ℕ → Mode → Type 0
LetReads limit mode = (held : Let) (frames : List Frame) → suc (length frames) + 1 ≤ limit → Shuts
    limit frames → Viable limit mode (in_let held ∷ frames)

abbrev ArgumentReads : ℕ → Mode → Type 0
ArgumentReads limit mode = (name : Name) (arguments : List Argument) (with_name : Bool)
    (label : Option Ident) (frames : List Frame) → Shuts limit frames →
    Viable limit mode (in_arguments name arguments with_name label ∷ frames)

abbrev ElementReads : ℕ → Mode → Type 0
ElementReads limit mode = (name : Name) (own : Option ℕ) (trees : List Tree) (frames : List Frame) →
    Shuts limit frames → Viable limit mode (in_elements name own trees ∷ frames)

in_front : {limit : ℕ} {mode : Mode} (frames : List Frame) → AllSuit limit frames →
    AllPlain frames → IsInFront frames → LetReads limit mode → Viable limit mode frames
in_front {limit} (in_let held ∷ frames) (own, room, suits) (plain, below) is fill =
    fill held frames (let_room limit (length frames) held room)
    (shut limit frames suits below plain)
in_front _ suits below is fill = absurd is

in_braces : {limit : ℕ} {mode : Mode} (frames : List Frame) → AllSuit limit frames →
    AllPlain frames → IsInBraces frames → LetReads limit mode → Viable limit mode frames
in_braces {limit} (in_let held ∷ frames) (own, room, suits) (plain, below) is fill =
    fill held frames (let_room limit (length frames) held room)
    (shut limit frames suits below plain)
in_braces _ suits below is fill = absurd is

in_filled : {limit : ℕ} {mode : Mode} (frames : List Frame) → AllSuit limit frames →
    AllPlain frames → IsFilled frames → LetReads limit mode → Viable limit mode frames
in_filled {limit} (in_let held ∷ frames) (own, room, suits) (plain, below) is fill =
    fill held frames (let_room limit (length frames) held room)
    (shut limit frames suits below plain)
in_filled _ suits below is fill = absurd is

in_array : {limit : ℕ} {mode : Mode} (frames : List Frame) → AllSuit limit frames →
    AllPlain frames → IsInElements frames → ElementReads limit mode → Viable limit mode frames
in_array {limit} (in_elements name own trees ∷ frames) (all, room, suits) (plain, below) is fill =
    fill name own trees frames (shut limit frames suits below plain)
in_array _ suits below is fill = absurd is

in_call : {limit : ℕ} {mode : Mode} (frames : List Frame) → AllSuit limit frames →
    AllPlain frames → IsInArguments frames → ArgumentReads limit mode → Viable limit mode frames
in_call {limit} (in_arguments name arguments with_name None ∷ frames) (all, room, suits)
    (plain, below)
    is fill = fill name arguments with_name None frames (shut limit frames suits below plain)
in_call _ suits below is fill = absurd is

-- with room in the list
abbrev RoomyReads : ℕ → Mode → Type 0
RoomyReads limit mode = (name : Name) (arguments : List Argument) (with_name : Bool)
    (label : Option Ident) (frames : List Frame) → suc (length frames) + 1 ≤ limit →
    Shuts limit frames → Viable limit mode (in_arguments name arguments with_name label ∷ frames)

in_roomy_call : {limit : ℕ} {mode : Mode} (frames : List Frame) → AllSuit limit frames →
    AllPlain frames → IsInArguments frames × HasRoom limit frames 1 → RoomyReads limit mode →
    Viable limit mode frames
in_roomy_call {limit} (in_arguments name arguments with_name None ∷ frames) (all, room, suits)
    (plain, below)
    is fill = fill name arguments with_name None frames is.1 (shut limit frames suits below plain)
in_roomy_call _ suits below is fill = absurd is.0

viable_by : (limit : ℕ) (mode : Mode) (frames : List Frame) → AllSuit limit frames →
    AllPlain frames → ModeSuits limit mode frames → Viable limit mode frames
viable_by limit wanted frames suits below (plain, room) =
    made (zero_reads room (shut limit frames suits below plain zero_tree))
viable_by limit (complete tree) frames suits below (levelled, high, room, plain) =
    made (shut limit frames suits below plain tree)
viable_by limit (part_wanted in_expression path) frames suits below (room, plain) =
    made (part_reads (shut limit frames suits below plain))
viable_by limit (part_wanted (in_type head) path) frames suits below is =
    in_front frames suits below is (λ held rest room shuts. made (type_part_reads room shuts))
viable_by limit (part_read in_expression path) frames suits below (some, (room, plain)) =
    made (path_reads limit path frames (shut limit frames suits below plain))
viable_by limit (part_read (in_type head) path) frames suits below (some, is) =
    in_front frames suits below is (λ held rest room shuts. made (type_path_reads room shuts))
viable_by limit (word_read in_expression name) frames suits below (is_name, (room, plain)) =
    made (word_reads limit name frames (shut limit frames suits below plain))
viable_by limit (word_read (in_type head) name) frames suits below (is_name, is) =
    in_front frames suits below is (λ held rest room shuts. made (type_word_reads room shuts))
viable_by limit (bracketed name) frames suits below (is_name, room, plain) =
    made (bracketed_reads (shut limit frames suits below plain))
viable_by limit (sized name value place) frames suits below (is_name, room, plain) =
    made (sized_reads (shut limit frames suits below plain))
viable_by limit (sized_closed name value place end) frames suits below (is_name, room, plain) =
    made (sized_closed_reads (shut limit frames suits below plain))
viable_by limit (unsized_closed name) frames suits below (is_name, room, plain) =
    made (unsized_reads (shut limit frames suits below plain))
viable_by limit first_argument frames suits below (is, plain) =
    in_call frames suits below is (λ name arguments with_name label rest shuts. made
    (first_argument_reads shuts))
viable_by limit argument_wanted frames suits below is =
    in_roomy_call frames suits below is (argument_reads limit)
viable_by limit (identifier_read ident) frames suits below (is, plain, room) =
    in_call frames suits below is (λ name arguments with_name label rest shuts. made
    (identifier_reads shuts))
viable_by limit (colon_wanted ident) frames suits below is =
    in_roomy_call frames suits below is (λ name arguments with_name label rest room shuts. made
    (colon_reads room shuts))
viable_by limit first_element frames suits below is =
    in_array frames suits below is (λ name own trees rest shuts. made (first_element_reads shuts))
viable_by limit (field_wanted tree) frames suits below (levelled, high, room, plain) =
    made (field_reads (shut limit frames suits below plain))
viable_by limit (let_begun place) frames suits below (low, room, plain) =
    made (let_begun_reads (omega arith) (shut limit frames suits below plain))
viable_by limit head_wanted frames suits below is =
    in_front frames suits below is (λ held rest room shuts. made (head_reads room shuts))
viable_by limit (type_wanted head) frames suits below is =
    in_front frames suits below is (λ held rest room shuts. made (type_reads room shuts))
viable_by limit (type_bracketed head name) frames suits below (is_name, is) =
    in_front frames suits below is (λ held rest room shuts. made (type_bracketed_reads room shuts))
viable_by limit (type_sized head name value) frames suits below (is_name, is) =
    in_front frames suits below is (λ held rest room shuts. made (type_sized_reads room shuts))
viable_by limit (deferred_wanted head name) frames suits below (is_name, is) =
    in_front frames suits below is (λ held rest room shuts. made (deferred_wanted_reads room shuts))
viable_by limit (deferred_read head name ident) frames suits below (is_name, is) =
    in_front frames suits below is (λ held rest room shuts. made (deferred_read_reads room shuts))
viable_by limit (deferred_closed head name ident) frames suits below (is_name, is) =
    in_front frames suits below is (λ held rest room shuts. made (deferred_closed_reads room shuts))
viable_by limit (name_wanted head ty) frames suits below (is_name, is) =
    in_front frames suits below is (λ held rest room shuts. made (name_reads room shuts))
viable_by limit (equals_wanted head ty name) frames suits below (is_name, is) =
    in_front frames suits below is (λ held rest room shuts. made (equals_reads room shuts))
viable_by limit next_wanted frames suits below is =
    in_braces frames suits below is (λ held rest room shuts. made (next_reads room shuts))
viable_by limit in_wanted frames suits below is =
    in_filled frames suits below is (λ held rest room shuts. made (in_reads room shuts))

-- from each state that fits tokens lead the machine to a whole tree, also where it is strict
pub viable_strictly : (strict : Bool) (limit : ℕ) (mode : Mode) (frames : List Frame) →
    Fits limit mode frames →
    (rest : List Token) × (tree : Tree) × Ends strict limit mode frames rest tree
viable_strictly strict limit mode frames fits =
    let led = viable_by limit mode frames fits.all fits.below fits.one in (
      led.rest,
      led.tree,
      read_ends strict limit led.rest led.tree 0 mode frames (led.reads strict 0),
    )

pub viable : (limit : ℕ) (mode : Mode) (frames : List Frame) → Fits limit mode frames →
    (rest : List Token) × (tree : Tree) × Ends false limit mode frames rest tree
viable limit mode frames fits = viable_strictly false limit mode frames fits
