-- The machine reads arrays.
use Rattle.std.proofs.Common.{◌≡◌, sym, ap, subst, refl, arith, ℕ, suc, ◌+◌, ◌≤◌, Bool, List, []}
use Rattle.std.proofs.Common.{◌∷◌, ◌++◌, Option, Some, None, codes, length}
use Rattle.std.proofs.lemmas.List.{append_assoc, append-nil}
use Rattle.mdl_lexer.specs.declared.token.Token.{Token}
use Rattle.mdl_lexer.specs.declared.token.Kind.{Kind}
use Rattle.mdl_lexer.specs.declared.token.Kind.TheVariants as kind
use Rattle.mdl_syntax.specs.declared.names.Span.{Span}
use Rattle.mdl_syntax.specs.declared.names.Name.{Name}
use Rattle.mdl_syntax.specs.Written.{number_words}
use Rattle.mdl_syntax.specs.Heights.{trees_height}
use Rattle.mdl_syntax.specs.Trees.{Tree, array, trees_of}
use Rattle.expression_grammar.specs.inside.Machine.{Mode, Frame, goes, sort_of, mode_step, opening}
use Rattle.expression_grammar.specs.inside.Machine.{closing, opening_bracket, closing_bracket, comma}
use Rattle.expression_grammar.specs.inside.Machine.{integer, in_expression, wanted, complete, bracketed}
use Rattle.expression_grammar.specs.inside.Machine.{sized, sized_closed, unsized_closed, first_element}
use Rattle.expression_grammar.specs.inside.Machine.{in_elements, from_to}
use Rattle.expression_grammar.specs.inside.Leads.{Leads, here}
use Rattle.expression_grammar.specs.inside.Sound.{IsMark, place}
use Rattle.expression_grammar.specs.Readings.{kinds}
use Rattle.expression_grammar.specs.inside.Wrote.{NameWrote}
use Rattle.expression_grammar.proofs.ReadsSorts.{by_sort}
use Rattle.expression_grammar.proofs.ReadsEdges.{Edge, whole_edge, from_wanted, from_element}
use Rattle.expression_grammar.proofs.ReadsEdges.{name_brackets}
use Rattle.expression_grammar.proofs.ReadsNames.{Law, name_reads, entry_start}
use Rattle.expression_grammar.proofs.LeadsLaws.{leads_on, leads_past, one_step, step_on}
use Rattle.expression_grammar.proofs.KindLaws.{same_head}

-- the state stands behind these elements, the last of them included
pub record ElementsEdge (limit : ℕ) (name : Name) (own : Option ℕ) (done : List Tree)
    (frames : List Frame) (mode : Mode) (last_frames : List Frame) : Type 0 where
  pub at_comma : (place : Span) → mode_step limit mode last_frames comma place
      ≡ goes wanted (in_elements name own done ∷ frames)
  pub at_closing : (place : Span) → mode_step limit mode last_frames closing place
      ≡ goes (complete (array name own (trees_of done) (from_to name.span.at place.end))) frames

element_edge : (limit : ℕ) (name : Name) (own : Option ℕ) (done : List Tree) (value : Tree)
    (frames : List Frame) (mode : Mode) (last_frames : List Frame) →
    Edge limit value (in_elements name own done ∷ frames) mode last_frames →
    ElementsEdge limit name own (done ++ value ∷ []) frames mode last_frames
element_edge limit name own done value frames mode last_frames edge = record {
  at_comma = λ place. edge.acts comma place tt;
  at_closing = λ place. edge.acts closing place tt;
}

pub record ElementsReads (strict : Bool) (limit : ℕ) (mode : Mode) (frames0 : List Frame)
    (name : Name) (own : Option ℕ) (done : List Tree) (frames : List Frame)
    (tokens : List Token) : Type 0 where
  pub last : Mode
  pub last_frames : List Frame
  pub leads : Leads strict limit mode frames0 tokens last last_frames
  pub edge : ElementsEdge limit name own done frames last last_frames

abbrev pub MoreTreesLaw : Bool → ℕ → List Tree → List Token → Type 0
MoreTreesLaw strict limit more tokens =
    (mode : Mode) (frames0 : List Frame) (name : Name) (own : Option ℕ) (done : List Tree)
    (frames : List Frame) → ElementsEdge limit name own done frames mode frames0 →
    suc (length frames) + trees_height (trees_of more) ≤ limit →
    ElementsReads strict limit mode frames0 name own (done ++ more) frames tokens

pub no_more_trees_law : (strict : Bool) (limit : ℕ) → MoreTreesLaw strict limit [] []
no_more_trees_law strict limit mode frames0 name own done frames edge room =
    subst (λ all. ElementsReads strict limit mode frames0 name own all frames [])
    (sym (append-nil done)) (record {
      last = mode;
      last_frames = frames0;
      leads = here mode frames0;
      edge = edge;
    })

pub one_more_tree_law : (strict : Bool) (limit : ℕ) (mark : Token) (first : Tree) (more : List Tree)
    (tokens others : List Token) → IsMark mark (codes ",") → Law strict limit first tokens →
    MoreTreesLaw strict limit more others →
    MoreTreesLaw strict limit (first ∷ more) (mark ∷ (tokens ++ others))
one_more_tree_law strict limit mark first more tokens others is first_law more_law mode frames0 name
    own done frames edge room =
    let over = in_elements name own done ∷ frames in
    let one = first_law wanted over over (from_wanted over) (omega arith) (omega (arith, room)) in
    let rest = more_law one.last one.last_frames name own (done ++ first ∷ []) frames
    (element_edge limit name own done first frames one.last one.last_frames one.edge)
    (omega (arith, room)) in
    subst (λ all. ElementsReads strict limit mode frames0 name own all frames
    (mark ∷ (tokens ++ others))) (append_assoc done (first ∷ []) more) (record {
      last = rest.last;
      last_frames = rest.last_frames;
      leads = step_on {last = rest.last} {last_frames = rest.last_frames}
          (by_sort strict limit mode frames0 mark comma wanted over (ap sort_of is.is) tt refl
          (edge.at_comma (place mark)))
          (leads_on {last = rest.last} {last_frames = rest.last_frames} one.leads rest.leads);
      edge = rest.edge;
    })

-- what is between the parentheses of an array
pub record ArrayReads (strict : Bool) (limit : ℕ) (name : Name) (own : Option ℕ)
    (elements : List Tree) (frames : List Frame) (tokens : List Token) : Type 0 where
  pub last : Mode
  pub last_frames : List Frame
  pub leads : Leads strict limit first_element (in_elements name own [] ∷ frames) tokens last
      last_frames
  pub at_closing : (place : Span) → mode_step limit last last_frames closing place
      ≡ goes (complete (array name own (trees_of elements) (from_to name.span.at place.end))) frames

abbrev pub TreesLaw : Bool → ℕ → List Tree → List Token → Type 0
TreesLaw strict limit elements tokens =
    (name : Name) (own : Option ℕ) (frames : List Frame) →
    suc (length frames) + trees_height (trees_of elements) ≤ limit →
    ArrayReads strict limit name own elements frames tokens

pub no_trees_law : (strict : Bool) (limit : ℕ) → TreesLaw strict limit [] []
no_trees_law strict limit name own frames room = record {
  last = first_element;
  last_frames = in_elements name own [] ∷ frames;
  leads = here first_element (in_elements name own [] ∷ frames);
  at_closing = λ place. refl;
}

pub some_trees_law : (strict : Bool) (limit : ℕ) (first : Tree) (more : List Tree)
    (tokens others : List Token) → Law strict limit first tokens →
    MoreTreesLaw strict limit more others → TreesLaw strict limit (first ∷ more) (tokens ++ others)
some_trees_law strict limit first more tokens others first_law more_law name own frames room =
    let over = in_elements name own [] ∷ frames in
    let one = first_law first_element over over (from_element name own [] frames) (omega arith)
    (omega (arith, room)) in
    let rest = more_law one.last one.last_frames name own (first ∷ []) frames
    (element_edge limit name own [] first frames one.last one.last_frames one.edge)
    (omega (arith, room)) in record {
      last = rest.last;
      last_frames = rest.last_frames;
      leads = leads_on {last = rest.last} {last_frames = rest.last_frames} one.leads rest.leads;
      at_closing = rest.edge.at_closing;
    }

-- The size.

abbrev IsEmpty : List Kind → Type 0
IsEmpty [] = Unit {0}
IsEmpty (word ∷ words) = ⊥

abbrev IsShort : List Kind → Type 0
IsShort [] = Unit {0}
IsShort (word ∷ []) = Unit {0}
IsShort (word ∷ other ∷ words) = ⊥

array_opens : (strict : Bool) (limit : ℕ) (name : Name) (own : Option ℕ) (frames : List Frame)
    (sizes : List Token) (end_bracket start : Token) (others : List Token) (last : Mode)
    (last_frames : List Frame) → number_words own ≡ kinds sizes → IsMark end_bracket (codes "]") →
    IsMark start (codes "(") → Leads strict limit first_element (in_elements name own [] ∷ frames)
    others last last_frames → Leads strict limit (bracketed name) frames
    (sizes ++ end_bracket ∷ start ∷ others) last last_frames
array_opens strict limit name None frames [] end_bracket start others last last_frames is is_end
    is_start leads =
    let over = in_elements name None [] ∷ frames in
    step_on (by_sort strict limit (bracketed name) frames end_bracket closing_bracket
    (unsized_closed name) frames (ap sort_of is_end.is) tt refl refl)
    (step_on (by_sort strict limit (unsized_closed name) frames start opening first_element over
    (ap sort_of is_start.is) tt refl refl) leads)
array_opens strict limit name None frames (token ∷ sizes) end_bracket start others last last_frames
    is is_end is_start leads = absurd (subst IsEmpty is tt)
array_opens strict limit name (Some value) frames [] end_bracket start others last last_frames is
    is_end is_start leads = absurd (subst IsEmpty (sym is) tt)
array_opens strict limit name (Some value) frames (token ∷ []) end_bracket start others last
    last_frames is is_end is_start leads =
    let over = in_elements name (Some value) [] ∷ frames in
    let now = sized name value (place token) in
    let after = sized_closed name value (place token) end_bracket.end in
    step_on (by_sort strict limit (bracketed name) frames token (integer value) now frames
    (ap sort_of (sym (same_head (kind.Int value) token.kind [] [] is))) tt refl refl)
    (step_on (by_sort strict limit now frames end_bracket closing_bracket after frames
    (ap sort_of is_end.is) tt refl refl) (step_on (by_sort strict limit after frames start opening
    first_element over (ap sort_of is_start.is) tt refl refl) leads))
array_opens strict limit name (Some value) frames (token ∷ other ∷ sizes) end_bracket start others
    last last_frames is is_end is_start leads = absurd (subst IsShort is tt)

pub array_law : (strict : Bool) (limit : ℕ) (bracket end_bracket start close : Token) (name : Name)
    (own : Option ℕ) (elements : List Tree) (names sizes tokens : List Token) →
    NameWrote name names → IsMark bracket (codes "[") → number_words own ≡ kinds sizes →
    IsMark end_bracket (codes "]") → IsMark start (codes "(") →
    TreesLaw strict limit elements tokens → IsMark close (codes ")") →
    Law strict limit (array name own (trees_of elements) (from_to name.span.at close.end))
    (names ++ bracket ∷ (sizes ++ end_bracket ∷ start ∷ (tokens ++ close ∷ [])))
array_law strict limit bracket end_bracket start close name own elements names sizes tokens wrote
    is_bracket is is_end is_start law is_close mode frames0 frames entry low room =
    let front = name_reads strict limit in_expression mode frames0 frames name names
    (entry_start strict limit mode frames0 frames name.span.at entry (omega (arith, room)))
    wrote in
    let over = in_elements name own [] ∷ frames in
    let inner = law name own frames (omega (arith, room)) in
    let tree = array name own (trees_of elements) (from_to name.span.at close.end) in record {
      last = complete tree;
      last_frames = frames;
      leads = leads_past bracket
          front.leads (by_sort strict limit front.last frames bracket opening_bracket
          (bracketed name) frames (ap sort_of is_bracket.is) tt refl
          (name_brackets limit name frames front.last (place bracket) front.edge))
          (array_opens strict limit name own frames sizes end_bracket start (tokens ++ close ∷ [])
          (complete tree) frames is is_end is_start
          (leads_on inner.leads (one_step (by_sort strict limit inner.last inner.last_frames close
          closing (complete tree) frames (ap sort_of is_close.is) tt refl (inner.at_closing
          (place close))))));
      edge = whole_edge limit tree frames;
    }
