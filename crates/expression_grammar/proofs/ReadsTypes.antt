-- The machine reads the types of initializers.
use Rattle.std.proofs.Common.{◌≡◌, sym, ap, subst, refl, ℕ, Bool, false, List, codes}
use Rattle.mdl_lexer.specs.declared.token.Token.{Token}
use Rattle.mdl_syntax.specs.declared.names.Span.{Span}
use Rattle.mdl_syntax.specs.declared.names.Name.{Name}
use Rattle.mdl_syntax.specs.declared.types.Size.TheVariants as size
use Rattle.mdl_syntax.specs.declared.types.TypeTree.{TypeTree}
use Rattle.mdl_syntax.specs.Levels.{mark_number}
use Rattle.expression_grammar.specs.inside.Machine.{Mode, Frame, Head, goes, sort_of, mode_step}
use Rattle.expression_grammar.specs.inside.Machine.{opening_bracket, closing_bracket, identifier, integer}
use Rattle.expression_grammar.specs.inside.Machine.{binary_operator, in_type, taken, allowed, sort_step}
use Rattle.expression_grammar.specs.inside.Machine.{type_bracketed, type_sized, deferred_wanted}
use Rattle.expression_grammar.specs.inside.Machine.{deferred_read, deferred_closed, name_wanted}
use Rattle.expression_grammar.specs.inside.Machine.{equals_wanted, type_of, ident_at}
use Rattle.expression_grammar.specs.inside.Leads.{Leads}
use Rattle.expression_grammar.specs.inside.Sound.{IsMark, place}
use Rattle.expression_grammar.specs.inside.Wrote.{TypeWrote, of_one, of_size, of_deferred}
use Rattle.expression_grammar.proofs.ReadsSorts.{by_sort}
use Rattle.expression_grammar.proofs.ReadsEdges.{NameEdge, path_read, of_path, of_word}
use Rattle.expression_grammar.proofs.ReadsNames.{NameStart, name_reads}
use Rattle.expression_grammar.proofs.LeadsLaws.{leads_past, one_step, step_on}

name_at_word : (limit : ℕ) (head : Head) (name : Name) (frames : List Frame) (mode : Mode)
    (text : List ℕ) (at : Span) → NameEdge (in_type head) name frames mode →
    mode_step limit mode frames (identifier text) at ≡ goes
    (equals_wanted head (type_of name size.One name.span.end) (ident_at text at)) frames
name_at_word limit head name frames mode text at (of_path _ _ _ _ (path_read _ _ _)) = refl
name_at_word limit head name frames mode text at (of_word _ _ _) = refl

name_at_bracket : (limit : ℕ) (head : Head) (name : Name) (frames : List Frame) (mode : Mode)
    (at : Span) → NameEdge (in_type head) name frames mode →
    mode_step limit mode frames opening_bracket at ≡ goes (type_bracketed head name) frames
name_at_bracket limit head name frames mode at (of_path _ _ _ _ (path_read _ _ _)) = refl
name_at_bracket limit head name frames mode at (of_word _ _ _) = refl

-- the tokens lead to a state that takes the initializer's name
pub record TypeReads (strict : Bool) (limit : ℕ) (head : Head) (mode : Mode)
    (frames0 frames : List Frame) (ty : TypeTree) (tokens : List Token) : Type 0 where
  pub last : Mode
  pub leads : Leads strict limit mode frames0 tokens last frames
  pub at_word : (text : List ℕ) (at : Span) → mode_step limit last frames (identifier text) at
      ≡ goes (equals_wanted head ty (ident_at text at)) frames

bracket_takes : (strict : Bool) (limit : ℕ) (head : Head) (name : Name) (frames : List Frame)
    (mode : Mode) (start : Token) → IsMark start (codes "[") →
    NameEdge (in_type head) name frames mode → taken strict limit mode frames start ≡ goes
    (type_bracketed head name) frames
bracket_takes strict limit head name frames mode start is edge =
    by_sort strict limit mode frames start opening_bracket (type_bracketed head name) frames
    (ap sort_of is.is) tt refl (name_at_bracket limit head name frames mode (place start) edge)

-- only a machine that isn't strict reads a deferred size
less_takes : (strict : Bool) (limit : ℕ) (head : Head) (name : Name) (frames : List Frame)
    (less : Token) → strict ≡ false → IsMark less (codes "<") →
    taken strict limit (type_bracketed head name) frames less ≡ goes (deferred_wanted head name)
    frames
less_takes strict limit head name frames less loose is =
    subst (λ b. taken b limit (type_bracketed head name) frames less ≡ goes
    (deferred_wanted head name) frames) (sym loose)
    (ap (λ s. allowed false (sort_step limit (type_bracketed head name) frames s (place less)))
    (ap sort_of is.is))

greater_takes : (strict : Bool) (limit : ℕ) (head : Head) (name : Name) (frames : List Frame)
    (text : List ℕ) (at : Span) (greater : Token) → IsMark greater (codes ">") →
    taken strict limit (deferred_read head name (ident_at text at)) frames greater ≡ goes
    (deferred_closed head name (ident_at text at)) frames
greater_takes strict limit head name frames text at greater is =
    by_sort strict limit (deferred_read head name (ident_at text at)) frames greater
    (binary_operator (mark_number (codes ">")) 8) (deferred_closed head name (ident_at text at))
    frames (ap sort_of is.is) tt refl refl

pub type_reads : (strict : Bool) (limit : ℕ) (head : Head) (mode : Mode)
    (frames0 frames : List Frame) (ty : TypeTree) (tokens : List Token) →
    NameStart strict limit (in_type head) mode frames0 frames ty.span.at →
    TypeWrote strict ty tokens → TypeReads strict limit head mode frames0 frames ty tokens
type_reads strict limit head mode frames0 frames ty tokens start (of_one name names wrote) =
    let read = name_reads strict limit (in_type head) mode frames0 frames name names start wrote in
    record {
      last = read.last;
      leads = read.leads;
      at_word = λ text at. name_at_word limit head name frames read.last text at read.edge;
    }
type_reads strict limit head mode frames0 frames ty tokens start
    (of_size name names bracket number close value wrote is_bracket is is_close) =
    let read = name_reads strict limit (in_type head) mode frames0 frames name names start wrote in
    let last = name_wanted head (type_of name (size.Sized value) close.end) in record {
      last = last;
      leads = leads_past bracket read.leads
          (bracket_takes strict limit head name frames read.last bracket is_bracket read.edge)
          (step_on (by_sort strict limit (type_bracketed head name) frames number (integer value)
          (type_sized head name value) frames (ap sort_of is) tt refl refl)
          (one_step (by_sort strict limit (type_sized head name value) frames close closing_bracket
          last
          frames (ap sort_of is_close.is) tt refl refl)));
      at_word = λ text at. refl;
    }
type_reads strict limit head mode frames0 frames ty tokens start (of_deferred name names bracket
    less word greater close text loose wrote is_bracket is_less is is_greater is_close) =
    let read = name_reads strict limit (in_type head) mode frames0 frames name names start wrote in
    let ident = ident_at text (place word) in
    let last = name_wanted head (type_of name (size.Deferred ident) close.end) in record {
      last = last;
      leads = leads_past bracket read.leads
          (bracket_takes strict limit head name frames read.last bracket is_bracket read.edge)
          (step_on (less_takes strict limit head name frames less loose is_less)
          (step_on (by_sort strict limit (deferred_wanted head name) frames word (identifier text)
          (deferred_read head name ident) frames (ap sort_of is) tt refl refl)
          (step_on (greater_takes strict limit head name frames text (place word) greater
          is_greater) (one_step (by_sort strict limit (deferred_closed head name ident) frames close
          closing_bracket last frames (ap sort_of is_close.is)
          tt refl refl)))));
      at_word = λ other at. refl;
    }
