-- The machine reads names, and the literals and names that are whole trees.
use Rattle.std.proofs.Common.{◌≡◌, ◌∙◌, ap, refl, ℕ, ◌+◌, ◌≤◌, Bool, true, false, List, []}
use Rattle.std.proofs.Common.{◌∷◌, ◌++◌, codes, length}
use Rattle.mdl_lexer.specs.declared.token.Token.{Token}
use Rattle.mdl_lexer.specs.declared.token.Kind.TheVariants as kind
use Rattle.mdl_syntax.specs.declared.names.Name.{Name}
use Rattle.mdl_syntax.specs.declared.expressions.Lit.{Lit}
use Rattle.mdl_syntax.specs.declared.expressions.Lit.TheVariants as lit
use Rattle.mdl_syntax.specs.Words.{literal_word}
use Rattle.mdl_syntax.specs.Levels.{is_type_word, level}
use Rattle.mdl_syntax.specs.Heights.{height}
use Rattle.mdl_syntax.specs.Trees.{Tree, literal}
use Rattle.expression_grammar.specs.inside.Machine.{Mode, Frame, Path, Purpose, goes, sort_of, mode_step}
use Rattle.expression_grammar.specs.inside.Machine.{identifier, integer, other_literal, type_word}
use Rattle.expression_grammar.specs.inside.Machine.{double_colon, taken, asked, in_expression, wanted}
use Rattle.expression_grammar.specs.inside.Machine.{complete, part_wanted, part_read, word_read}
use Rattle.expression_grammar.specs.inside.Machine.{identifier_read, first_part, absolute_path}
use Rattle.expression_grammar.specs.inside.Machine.{longer_path, word_name, name_tree, integer_tree}
use Rattle.expression_grammar.specs.inside.Machine.{ident_at, sized}
use Rattle.expression_grammar.specs.inside.Leads.{Leads}
use Rattle.expression_grammar.specs.inside.Sound.{IsMark, place}
use Rattle.expression_grammar.specs.inside.Wrote.{PathWrote, one_part, absolute_part, longer_parts}
use Rattle.expression_grammar.specs.inside.Wrote.{NameWrote, a_path, a_word}
use Rattle.expression_grammar.proofs.ReadsSorts.{by_sort, type_sort}
use Rattle.expression_grammar.proofs.ReadsEdges.{Edge, PathEdge, NameEdge, path_read, path_identifier}
use Rattle.expression_grammar.proofs.ReadsEdges.{of_path, of_word, path_goes_on, name_edge, whole_edge}
use Rattle.expression_grammar.proofs.ReadsEdges.{size_edge, within_room, Entry, from_wanted, from_bracket}
use Rattle.expression_grammar.proofs.ReadsEdges.{from_element, from_argument, from_first_argument}
use Rattle.expression_grammar.proofs.ReadsEdges.{entry_acts}
use Rattle.expression_grammar.proofs.LeadsLaws.{leads_on, one_step, step_on}

-- the tokens lead from a state to one that acts as if the tree had just been read over the frames
pub record Reads (strict : Bool) (limit : ℕ) (mode : Mode) (frames0 frames : List Frame)
    (tree : Tree) (tokens : List Token) : Type 0 where
  pub last : Mode
  pub last_frames : List Frame
  pub leads : Leads strict limit mode frames0 tokens last last_frames
  pub edge : Edge limit tree frames last last_frames

-- the tokens are read as the tree wherever such a tree may stand
abbrev pub Law : Bool → ℕ → Tree → List Token → Type 0
Law strict limit tree tokens =
    (mode : Mode) (frames0 frames : List Frame) → Entry mode frames0 frames →
    asked frames ≤ level tree → length frames + height tree ≤ limit →
    Reads strict limit mode frames0 frames tree tokens

-- Names.

pub record PathStep (strict : Bool) (limit : ℕ) (purpose : Purpose) (mode : Mode)
    (frames0 frames : List Frame) (token : Token) (path : Path) : Type 0 where
  pub after : Mode
  pub is : taken strict limit mode frames0 token ≡ goes after frames
  pub edge : PathEdge purpose path frames after

-- a name may begin in the state, at this place
pub record NameStart (strict : Bool) (limit : ℕ) (purpose : Purpose) (mode : Mode)
    (frames0 frames : List Frame) (begin : ℕ) : Type 0 where
  pub at_identifier : (token : Token) (text : List ℕ) → token.at ≡ begin →
      token.kind ≡ kind.Word text → PathStep strict limit purpose mode frames0 frames token
      (first_part text (place token))
  pub at_colons : (token : Token) → token.at ≡ begin → IsMark token (codes "::") →
      taken strict limit mode frames0 token ≡ goes
      (part_wanted purpose (absolute_path (place token))) frames
  pub at_word : (token : Token) (number : ℕ) → token.at ≡ begin → token.kind ≡ kind.Reserved
      number → is_type_word number ≡ true → taken strict limit mode frames0 token ≡ goes
      (word_read purpose (word_name number (place token))) frames

pub record PathReads (strict : Bool) (limit : ℕ) (purpose : Purpose) (mode : Mode)
    (frames0 frames : List Frame) (path : Path) (tokens : List Token) : Type 0 where
  pub last : Mode
  pub leads : Leads strict limit mode frames0 tokens last frames
  pub edge : PathEdge purpose path frames last

pub record NameReads (strict : Bool) (limit : ℕ) (purpose : Purpose) (mode : Mode)
    (frames0 frames : List Frame) (name : Name) (tokens : List Token) : Type 0 where
  pub last : Mode
  pub leads : Leads strict limit mode frames0 tokens last frames
  pub edge : NameEdge purpose name frames last

part_takes : (strict : Bool) (limit : ℕ) (purpose : Purpose) (path : Path) (frames : List Frame)
    (word : Token) (text : List ℕ) → word.kind ≡ kind.Word text →
    taken strict limit (part_wanted purpose path) frames word ≡ goes
    (part_read purpose (longer_path path text (place word))) frames
part_takes strict limit purpose path frames word text is =
    by_sort strict limit (part_wanted purpose path) frames word (identifier text)
    (part_read purpose (longer_path path text (place word))) frames (ap sort_of is) tt refl refl

path_reads : (strict : Bool) (limit : ℕ) (purpose : Purpose) (mode : Mode)
    (frames0 frames : List Frame) (path : Path) (tokens : List Token) →
    NameStart strict limit purpose mode frames0 frames path.span.at → PathWrote path tokens →
    PathReads strict limit purpose mode frames0 frames path tokens
path_reads strict limit purpose mode frames0 frames path tokens start (one_part word text is) =
    let first = start.at_identifier word text refl is in record {
      last = first.after;
      leads = one_step first.is;
      edge = first.edge;
    }
path_reads strict limit purpose mode frames0 frames path tokens start (absolute_part mark word text
    is_mark is) =
    let now = absolute_path (place mark) in
    let last = part_read purpose (longer_path now text (place word)) in record {
      last = last;
      leads = step_on
          (start.at_colons mark refl is_mark) (one_step
          (part_takes strict limit purpose now frames word text is));
      edge = path_read purpose (longer_path now text (place word)) frames;
    }
path_reads strict limit purpose mode frames0 frames path tokens start
    (longer_parts before names mark word text parts is_mark is) =
    by (path_reads strict limit purpose mode frames0 frames before names start parts)
  where
    by : PathReads strict limit purpose mode frames0 frames before names →
        PathReads strict limit purpose mode frames0 frames (longer_path before text (place word))
        (names ++ mark ∷ word ∷ [])
    by front =
        let last = part_read purpose (longer_path before text (place word)) in record {
          last = last;
          leads = leads_on front.leads (step_on (by_sort strict limit front.last
              frames mark double_colon (part_wanted purpose before) frames (ap sort_of is_mark.is)
              tt refl (path_goes_on limit purpose before frames front.last (place mark) front.edge))
              (one_step
              (part_takes strict limit purpose before frames word text is)));
          edge = path_read purpose (longer_path before text (place word)) frames;
        }

pub name_reads : (strict : Bool) (limit : ℕ) (purpose : Purpose) (mode : Mode)
    (frames0 frames : List Frame) (name : Name) (tokens : List Token) →
    NameStart strict limit purpose mode frames0 frames name.span.at → NameWrote name tokens →
    NameReads strict limit purpose mode frames0 frames name tokens
name_reads strict limit purpose mode frames0 frames name tokens start (a_path path _ wrote) =
    let read = path_reads strict limit purpose mode frames0 frames path tokens start wrote in
    record {
      last = read.last;
      leads = read.leads;
      edge = of_path purpose path frames read.last read.edge;
    }
name_reads strict limit purpose mode frames0 frames name tokens start
    (a_word word number is is_type) =
    let name_is = word_name number (place word) in record {
      last = word_read purpose name_is;
      leads = one_step
          (start.at_word word number refl is is_type);
      edge = of_word purpose name_is frames;
    }

-- a state where an operand is wanted takes an identifier as a name's first part
identifier_takes : (strict : Bool) (limit : ℕ) (mode : Mode) (frames0 frames : List Frame)
    (word : Token) (text : List ℕ) → word.kind ≡ kind.Word text → length frames + 1 ≤ limit →
    Entry mode frames0 frames → PathStep strict limit in_expression mode frames0 frames word
    (first_part text (place word))
identifier_takes strict limit mode frames0 frames word text is room (from_wanted _) = record {
  after = part_read in_expression (first_part text (place word));
  is = by_sort strict limit wanted frames word (identifier text) (part_read in_expression
      (first_part text (place word))) frames (ap sort_of is) tt refl (within_room limit frames 1
      (goes (part_read in_expression (first_part text (place word))) frames) room);
  edge = path_read in_expression (first_part text (place word)) frames;
}
identifier_takes strict limit mode frames0 frames word text is room (from_bracket name _) = record {
  after = part_read in_expression (first_part text (place word));
  is = by_sort strict limit mode frames0 word (identifier text) (part_read in_expression
      (first_part text (place word))) frames (ap sort_of is) tt refl (within_room limit frames 1
      (goes (part_read in_expression (first_part text (place word))) frames) room);
  edge = path_read in_expression (first_part text (place word)) frames;
}
identifier_takes strict limit mode frames0 frames word text is room
    (from_element _ _ _ _) = record {
      after = part_read in_expression (first_part text (place word));
      is = by_sort strict limit mode frames0 word (identifier text) (part_read in_expression
          (first_part text (place word))) frames (ap sort_of is) tt refl (within_room limit frames 1
          (goes (part_read in_expression (first_part text (place word))) frames) room);
      edge = path_read in_expression (first_part text (place word)) frames;
    }
identifier_takes strict limit mode frames0 frames word text is room (from_argument name arguments
    label rest) =
    record {
      after = identifier_read (ident_at text (place word));
      is = by_sort strict limit mode frames0 word (identifier text)
          (identifier_read (ident_at text (place word))) frames (ap sort_of is) tt refl (within_room
          limit frames 1 (goes (identifier_read (ident_at text (place word))) frames) room);
      edge = path_identifier text (place word) name arguments false label rest;
    }
identifier_takes strict limit mode frames0 frames word text is room
    (from_first_argument name arguments label rest) = record {
      after = identifier_read (ident_at text (place word));
      is = by_sort strict limit mode frames0 word (identifier text)
          (identifier_read (ident_at text (place word))) frames (ap sort_of is) tt refl (within_room
          limit frames 1 (goes (identifier_read (ident_at text (place word))) frames) room);
      edge = path_identifier text (place word) name arguments false label rest;
    }

pub entry_start : (strict : Bool) (limit : ℕ) (mode : Mode) (frames0 frames : List Frame) →
    (begin : ℕ) → Entry mode frames0 frames → length frames + 1 ≤ limit →
    NameStart strict limit in_expression mode frames0 frames begin
entry_start strict limit mode frames0 frames begin entry room = record {
  at_identifier = λ word text same is.
      identifier_takes strict limit mode frames0 frames word text is room entry;
  at_colons = λ mark same is.
      let after = part_wanted in_expression (absolute_path (place mark)) in
      by_sort strict limit mode frames0 mark double_colon after frames (ap sort_of is.is) tt refl
      (entry_acts limit mode frames0 frames double_colon (place mark) entry tt
      ∙ within_room limit frames 1 (goes after frames) room);
  at_word = λ word number same is is_type.
      let after = word_read in_expression (word_name number (place word)) in
      by_sort strict limit mode frames0 word (type_word number) after frames
      (ap sort_of is ∙ type_sort number is_type) tt refl (entry_acts limit mode frames0 frames
      (type_word number) (place word) entry tt
      ∙ within_room limit frames 1 (goes after frames) room);
}

-- Leaves.

pub named_law : (strict : Bool) (limit : ℕ) (name : Name) (tokens : List Token) →
    NameWrote name tokens → Law strict limit (name_tree name) tokens
named_law strict limit name tokens wrote mode frames0 frames entry low room =
    let read = name_reads strict limit in_expression mode frames0 frames name tokens
    (entry_start strict limit mode frames0 frames name.span.at entry room) wrote in record {
      last = read.last;
      last_frames = frames;
      leads = read.leads;
      edge = name_edge limit name frames read.last read.edge;
    }

other_law : (strict : Bool) (limit : ℕ) (token : Token) (own : Lit) → sort_of token.kind
    ≡ other_literal own → Law strict limit (literal own (place token)) (token ∷ [])
other_law strict limit token own is mode frames0 frames entry low room =
    let tree = literal own (place token) in record {
      last = complete tree;
      last_frames = frames;
      leads = one_step
          (by_sort strict limit mode frames0 token (other_literal own) (complete tree) frames is tt
          refl (entry_acts limit mode frames0 frames (other_literal own) (place token) entry
          tt ∙ within_room limit frames 1 (goes (complete tree) frames) room));
      edge = whole_edge limit tree frames;
    }

integer_as : (strict : Bool) (limit : ℕ) (mode : Mode) (frames0 frames : List Frame) (token : Token)
    (value : ℕ) → token.kind ≡ kind.Int value → length frames + 1 ≤ limit →
    mode_step limit mode frames0 (integer value) (place token) ≡ mode_step limit wanted frames
    (integer value) (place token) →
    Reads strict limit mode frames0 frames (integer_tree value (place token)) (token ∷ [])
integer_as strict limit mode frames0 frames token value is room same =
    let tree = integer_tree value (place token) in record {
      last = complete tree;
      last_frames = frames;
      leads = one_step
          (by_sort strict limit mode frames0 token (integer value) (complete tree) frames
          (ap sort_of is) tt refl (same ∙ within_room limit frames 1 (goes (complete tree) frames)
          room));
      edge = whole_edge limit tree frames;
    }

integer_law : (strict : Bool) (limit : ℕ) (token : Token) (value : ℕ) →
    token.kind ≡ kind.Int value → Law strict limit (integer_tree value (place token)) (token ∷ [])
integer_law strict limit token value is mode frames0 frames (from_bracket name rest) low
    room = record {
      last = sized name value (place token);
      last_frames = rest;
      leads = one_step
          (by_sort strict limit mode frames0 token (integer value) (sized name value (place token))
          rest (ap sort_of is) tt refl refl);
      edge = size_edge limit name value (place token) rest;
    }
integer_law strict limit token value is mode frames0 frames (from_wanted _) low room =
    integer_as strict limit mode frames0 frames token value is room refl
integer_law strict limit token value is mode frames0 frames (from_element _ _ _ _) low room =
    integer_as strict limit mode frames0 frames token value is room refl
integer_law strict limit token value is mode frames0 frames (from_argument _ _ _ _) low room =
    integer_as strict limit mode frames0 frames token value is room refl
integer_law strict limit token value is mode frames0 frames (from_first_argument _ _ _ _) low room =
    integer_as strict limit mode frames0 frames token value is room refl

pub literal_law : (strict : Bool) (limit : ℕ) (token : Token) (own : Lit) →
    token.kind ≡ literal_word own → Law strict limit (literal own (place token)) (token ∷ [])
literal_law strict limit token (lit.Bool true) is = other_law strict limit token (lit.Bool true)
    (ap sort_of is)
literal_law strict limit token (lit.Bool false) is = other_law strict limit token (lit.Bool false)
    (ap sort_of is)
literal_law strict limit token (lit.Int value) is = integer_law strict limit token value is
literal_law strict limit token (lit.Real text double) is =
    other_law strict limit token (lit.Real text double) (ap sort_of is)
literal_law strict limit token (lit.Str text) is = other_law strict limit token (lit.Str text)
    (ap sort_of is)
