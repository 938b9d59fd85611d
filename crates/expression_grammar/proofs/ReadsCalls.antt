-- The machine reads calls.
use Rattle.std.proofs.Common.{◌≡◌, ◌∙◌, sym, ap, subst, refl, arith, ℕ, suc, ◌+◌, ◌≤◌, max, Bool}
use Rattle.std.proofs.Common.{true}
use Rattle.std.proofs.Common.{false, List, [], ◌∷◌, ◌++◌, Option, Some, None, codes, length}
use Rattle.std.proofs.lemmas.List.{append_assoc, append-nil}
use Rattle.mdl_lexer.specs.declared.token.Token.{Token}
use Rattle.mdl_lexer.specs.declared.token.Kind.TheVariants as kind
use Rattle.mdl_syntax.specs.declared.names.Span.{Span}
use Rattle.mdl_syntax.specs.declared.names.Ident.{Ident}
use Rattle.mdl_syntax.specs.declared.names.Name.{Name}
use Rattle.mdl_syntax.specs.Heights.{height, arguments_height}
use Rattle.mdl_syntax.specs.Trees.{Tree, Argument, call, arguments_of}
use Rattle.expression_grammar.specs.inside.Machine.{argument_step}
use Rattle.expression_grammar.specs.inside.Machine.{Mode, Frame, goes, sort_of, mode_step, opening}
use Rattle.expression_grammar.specs.inside.Machine.{closing, comma, colon, identifier, in_expression}
use Rattle.expression_grammar.specs.inside.Machine.{taken, wanted, complete, first_argument}
use Rattle.expression_grammar.specs.inside.Machine.{argument_wanted, identifier_read, colon_wanted}
use Rattle.expression_grammar.specs.inside.Machine.{in_arguments, argument, ident_at, from_to}
use Rattle.expression_grammar.specs.inside.Leads.{Leads, here}
use Rattle.expression_grammar.specs.inside.Sound.{IsMark, place}
use Rattle.expression_grammar.specs.inside.Wrote.{NameWrote}
use Rattle.expression_grammar.proofs.ReadsSorts.{by_sort}
use Rattle.expression_grammar.proofs.ReadsEdges.{Edge, whole_edge, within_room, Entry, from_wanted}
use Rattle.expression_grammar.proofs.ReadsEdges.{from_argument, from_first_argument, name_opens}
use Rattle.expression_grammar.proofs.ReadsNames.{Law, name_reads, entry_start}
use Rattle.expression_grammar.proofs.HeightLaws.{some_height}
use Rattle.expression_grammar.proofs.LeadsLaws.{leads_on, leads_past, one_step, step_on}

-- the state stands behind these arguments, the last of them included
pub record ArgumentsEdge (limit : ℕ) (name : Name) (done : List Argument) (with_name : Bool)
    (frames : List Frame) (mode : Mode) (last_frames : List Frame) : Type 0 where
  pub at_comma : (place : Span) → mode_step limit mode last_frames comma place
      ≡ goes argument_wanted (in_arguments name done with_name None ∷ frames)
  pub at_closing : (place : Span) → mode_step limit mode last_frames closing place
      ≡ goes (complete (call name (arguments_of done) (from_to name.span.at place.end))) frames

value_edge : (limit : ℕ) (name : Name) (done : List Argument) (with_name : Bool)
    (label : Option Ident) (value : Tree) (frames : List Frame) (mode : Mode)
    (last_frames : List Frame) → Edge limit value (in_arguments name done with_name label ∷ frames)
    mode last_frames → ArgumentsEdge limit name (done ++ argument label value ∷ []) with_name frames
    mode last_frames
value_edge limit name done with_name label value frames mode last_frames edge = record {
  at_comma = λ place. edge.acts comma place tt;
  at_closing = λ place. edge.acts closing place tt;
}

pub record ArgumentsReads (strict : Bool) (limit : ℕ) (mode : Mode) (frames0 : List Frame)
    (name : Name) (done : List Argument) (with_name : Bool) (frames : List Frame)
    (tokens : List Token) : Type 0 where
  pub last : Mode
  pub last_frames : List Frame
  pub leads : Leads strict limit mode frames0 tokens last last_frames
  pub edge : ArgumentsEdge limit name done with_name frames last last_frames

-- where an argument is wanted
pub data ArgumentStart : Mode → Type 0 where
  at_first : ArgumentStart first_argument
  at_next : ArgumentStart argument_wanted

abbrev pub ArgumentLaw : Bool → ℕ → Bool → Bool → Argument → List Token → Type 0
ArgumentLaw strict limit before with_it first tokens =
    (mode : Mode) (name : Name) (done : List Argument) (frames : List Frame) → ArgumentStart mode →
    suc (length frames) + height first.1 ≤ limit →
    ArgumentsReads strict limit mode (in_arguments name done before None ∷ frames) name
    (done ++ first ∷ []) with_it frames tokens

start_entry : (mode : Mode) (name : Name) (done : List Argument) (frames : List Frame) →
    ArgumentStart mode → Entry mode (in_arguments name done false None ∷ frames)
    (in_arguments name done false None ∷ frames)
start_entry mode name done frames at_first = from_first_argument name done None frames
start_entry mode name done frames at_next = from_argument name done None frames

pub plain_argument : (strict : Bool) (limit : ℕ) (value : Tree) (tokens : List Token) →
    Law strict limit value tokens → ArgumentLaw strict limit false false (argument None value)
    tokens
plain_argument strict limit value tokens law mode name done frames start room =
    let over = in_arguments name done false None ∷ frames in
    let read = law mode over over (start_entry mode name done frames start) (omega arith) room in
    record {
      last = read.last;
      last_frames = read.last_frames;
      leads = read.leads;
      edge = value_edge limit name done false None value frames read.last read.last_frames
          read.edge;
    }

-- behind an argument's name its `:` is taken
record LabelStep (strict : Bool) (limit : ℕ) (mode : Mode) (frames : List Frame) (word : Token)
    (after : List Frame) : Type 0 where
  pub then_mode : Mode
  pub is : taken strict limit mode frames word ≡ goes then_mode frames
  pub at_colon : (place : Span) → mode_step limit then_mode frames colon place ≡ goes wanted after

argument_acts : (limit : ℕ) (mode : Mode) (name : Name) (done : List Argument) (before : Bool)
    (frames : List Frame) (text : List ℕ) (at : Span) → ArgumentStart mode →
    mode_step limit mode (in_arguments name done before None ∷ frames) (identifier text) at
    ≡ argument_step limit (in_arguments name done before None ∷ frames) (identifier text) at
argument_acts limit mode name done before frames text at at_first = refl
argument_acts limit mode name done before frames text at at_next = refl

label_step : (strict : Bool) (limit : ℕ) (mode : Mode) (name : Name) (done : List Argument)
    (before : Bool) (frames : List Frame) (word : Token) (text : List ℕ) →
    word.kind ≡ kind.Word text → suc (length frames) + 1 ≤ limit → ArgumentStart mode →
    LabelStep strict limit mode (in_arguments name done before None ∷ frames) word
    (in_arguments name done true (Some (ident_at text (place word))) ∷ frames)
label_step strict limit mode name done true frames word text is room start =
    let over = in_arguments name done true None ∷ frames in
    let now = colon_wanted (ident_at text (place word)) in record {
      then_mode = now;
      is = by_sort strict limit mode over word (identifier text) now over (ap sort_of is) tt refl
          (argument_acts limit mode name done true frames text (place word) start
          ∙ within_room limit over 1 (goes now over) room);
      at_colon = λ place. refl;
    }
label_step strict limit mode name done false frames word text is room start =
    let over = in_arguments name done false None ∷ frames in
    let now = identifier_read (ident_at text (place word)) in record {
      then_mode = now;
      is = by_sort strict limit mode over word (identifier text) now over (ap sort_of is) tt refl
          (argument_acts limit mode name done false frames text (place word) start
          ∙ within_room limit over 1 (goes now over) room);
      at_colon = λ place. refl;
    }

pub labelled_argument : (strict : Bool) (limit : ℕ) (before : Bool) (word mark : Token)
    (text : List ℕ) (value : Tree) (tokens : List Token) → word.kind ≡ kind.Word text →
    IsMark mark (codes ":") → Law strict limit value tokens →
    ArgumentLaw strict limit before true (argument (Some (ident_at text (place word))) value)
    (word ∷ mark ∷ tokens)
labelled_argument strict limit before word mark text value tokens is is_mark law mode name done
    frames start room =
    let over = in_arguments name done before None ∷ frames in
    let label = Some (ident_at text (place word)) in
    let inner = in_arguments name done true label ∷ frames in
    let now = label_step strict limit mode name done before frames word text is
    (omega (arith, room, some_height value)) start in
    let read = law wanted inner inner (from_wanted inner) (omega arith) room in record {
      last = read.last;
      last_frames = read.last_frames;
      leads = step_on {last = read.last} {last_frames = read.last_frames}
          now.is (step_on {last = read.last} {last_frames = read.last_frames}
          (by_sort strict limit now.then_mode over mark colon wanted inner (ap sort_of is_mark.is)
          tt refl (now.at_colon (place mark))) read.leads);
      edge = value_edge limit name done true label value frames read.last read.last_frames
          read.edge;
    }

-- Several arguments.

pub record MoreReads (strict : Bool) (limit : ℕ) (mode : Mode) (frames0 : List Frame) (name : Name)
    (done : List Argument) (frames : List Frame) (tokens : List Token) : Type 0 where
  pub with_name : Bool
  pub reads : ArgumentsReads strict limit mode frames0 name done with_name frames tokens

abbrev pub MoreArgumentsLaw : Bool → ℕ → Bool → List Argument → List Token → Type 0
MoreArgumentsLaw strict limit before more tokens =
    (mode : Mode) (frames0 : List Frame) (name : Name) (done : List Argument)
    (frames : List Frame) → ArgumentsEdge limit name done before frames mode frames0 →
    suc (length frames) + arguments_height (arguments_of more) ≤ limit →
    MoreReads strict limit mode frames0 name (done ++ more) frames tokens

pub no_more_law : (strict : Bool) (limit : ℕ) (before : Bool) → MoreArgumentsLaw strict limit before
    [] []
no_more_law strict limit before mode frames0 name done frames edge room =
    subst (λ all. MoreReads strict limit mode frames0 name all frames []) (sym (append-nil done))
    (record {
      with_name = before;
      reads = record { last = mode; last_frames = frames0; leads = here mode frames0; edge = edge };
    })

height_with : (first : Argument) (more : List Argument) →
    arguments_height (arguments_of (first ∷ more)) ≡ max (height first.1)
    (arguments_height (arguments_of more))
height_with (name, value, span) more = refl

pub one_more_law : (strict : Bool) (limit : ℕ) (before with_it : Bool) (mark : Token)
    (first : Argument) (more : List Argument) (tokens others : List Token) →
    IsMark mark (codes ",") → ArgumentLaw strict limit before with_it first tokens →
    MoreArgumentsLaw strict limit with_it more others →
    MoreArgumentsLaw strict limit before (first ∷ more) (mark ∷ (tokens ++ others))
one_more_law strict limit before with_it mark first more tokens others is first_law more_law mode
    frames0 name done frames edge room =
    let over = in_arguments name done before None ∷ frames in
    let one = first_law argument_wanted name done frames at_next
    (omega (arith, room, height_with first more)) in
    let rest = more_law one.last one.last_frames name (done ++ first ∷ []) frames one.edge
    (omega (arith, room, height_with first more)) in
    subst (λ all. MoreReads strict limit mode frames0 name all frames (mark ∷ (tokens ++ others)))
    (append_assoc done (first ∷ []) more) (record {
      with_name = rest.with_name;
      reads = record {
        last = rest.reads.last;
        last_frames = rest.reads.last_frames;
        leads = step_on {last = rest.reads.last} {last_frames = rest.reads.last_frames}
            (by_sort strict limit mode frames0 mark comma argument_wanted over (ap sort_of is.is) tt
            refl (edge.at_comma (place mark))) (leads_on {last = rest.reads.last}
            {last_frames = rest.reads.last_frames} one.leads
            rest.reads.leads);
        edge = rest.reads.edge;
      };
    })

-- what is between the parentheses of a call
pub record CallReads (strict : Bool) (limit : ℕ) (name : Name) (arguments : List Argument)
    (frames : List Frame) (tokens : List Token) : Type 0 where
  pub last : Mode
  pub last_frames : List Frame
  pub leads : Leads strict limit first_argument (in_arguments name [] false None ∷ frames) tokens
      last last_frames
  pub at_closing : (place : Span) → mode_step limit last last_frames closing place
      ≡ goes (complete (call name (arguments_of arguments) (from_to name.span.at place.end))) frames

abbrev pub ArgumentsLaw : Bool → ℕ → List Argument → List Token → Type 0
ArgumentsLaw strict limit arguments tokens =
    (name : Name) (frames : List Frame) →
    suc (length frames) + arguments_height (arguments_of arguments) ≤ limit →
    CallReads strict limit name arguments frames tokens

pub no_arguments_law : (strict : Bool) (limit : ℕ) → ArgumentsLaw strict limit [] []
no_arguments_law strict limit name frames room = record {
  last = first_argument;
  last_frames = in_arguments name [] false None ∷ frames;
  leads = here first_argument (in_arguments name [] false None ∷ frames);
  at_closing = λ place. refl;
}

pub some_arguments_law : (strict : Bool) (limit : ℕ) (with_it : Bool) (first : Argument)
    (more : List Argument) (tokens others : List Token) →
    ArgumentLaw strict limit false with_it first tokens →
    MoreArgumentsLaw strict limit with_it more others →
    ArgumentsLaw strict limit (first ∷ more) (tokens ++ others)
some_arguments_law strict limit with_it first more tokens others first_law more_law name frames
    room =
    let over = in_arguments name [] false None ∷ frames in
    let one = first_law first_argument name [] frames at_first
    (omega (arith, room, height_with first more)) in
    let rest = more_law one.last one.last_frames name (first ∷ []) frames one.edge
    (omega (arith, room, height_with first more)) in record {
      last = rest.reads.last;
      last_frames = rest.reads.last_frames;
      leads = leads_on {last = rest.reads.last} {last_frames = rest.reads.last_frames} one.leads
          rest.reads.leads;
      at_closing = rest.reads.edge.at_closing;
    }

pub call_law : (strict : Bool) (limit : ℕ) (start close : Token) (name : Name)
    (arguments : List Argument) (names tokens : List Token) → NameWrote name names →
    IsMark start (codes "(") → ArgumentsLaw strict limit arguments tokens →
    IsMark close (codes ")") →
    Law strict limit (call name (arguments_of arguments) (from_to name.span.at close.end))
    (names ++ start ∷ (tokens ++ close ∷ []))
call_law strict limit start close name arguments names tokens wrote is_start law is_close mode
    frames0 frames entry low room =
    let front = name_reads strict limit in_expression mode frames0 frames name names
    (entry_start strict limit mode frames0 frames name.span.at entry (omega (arith, room)))
    wrote in
    let over = in_arguments name [] false None ∷ frames in
    let inner = law name frames (omega (arith, room)) in
    let tree = call name (arguments_of arguments) (from_to name.span.at close.end) in record {
      last = complete tree;
      last_frames = frames;
      leads = leads_past start front.leads
          (by_sort strict limit front.last frames start opening first_argument over
          (ap sort_of is_start.is) tt refl (name_opens limit name frames front.last (place start)
          front.edge))
          (leads_on inner.leads (one_step (by_sort strict limit inner.last inner.last_frames close
          closing (complete tree) frames (ap sort_of is_close.is) tt refl
          (inner.at_closing (place close)))));
      edge = whole_edge limit tree frames;
    }
