-- The machine of modules reads calls that are no expressions: annotations, and bases of variants.
use Rattle.std.proofs.Common.{◌≡◌, ◌∙◌, sym, ap, subst, refl, arith, ℕ, suc, ◌≤◌, Bool, true}
use Rattle.std.proofs.Common.{false, List, [], ◌∷◌, None}
use Rattle.std.proofs.lemmas.Bool.{false≢true, cond-true}
use Rattle.mdl_lexer.specs.declared.token.Token.{Token}
use Rattle.mdl_syntax.specs.declared.names.Span.{Span}
use Rattle.mdl_syntax.specs.declared.names.Name.{Name}
use Rattle.mdl_syntax.specs.Heights.{arguments_height}
use Rattle.mdl_syntax.specs.Trees.{Tree, Arguments, call, arguments_of}
use Rattle.mdl_syntax.specs.Modules.{Annotation}
use Rattle.expression_grammar.specs.inside.Machine.{Sort, sort_of, Mode, Frame, Path, goes, left_out}
use Rattle.expression_grammar.specs.inside.Machine.{identifier, type_word, double_colon, opening, closing}
use Rattle.expression_grammar.specs.inside.Machine.{wanted, complete, field_wanted, part_wanted, part_read}
use Rattle.expression_grammar.specs.inside.Machine.{word_read, first_argument, in_arguments, in_expression}
use Rattle.expression_grammar.specs.inside.Machine.{mode_step, sort_step, is_deferred, first_part, from_to}
use Rattle.expression_grammar.specs.inside.Machine.{taken}
use Rattle.expression_grammar.specs.inside.Machine.{absolute_path, longer_path, word_name}
use Rattle.expression_grammar.specs.inside.Leads.{Leads}
use Rattle.expression_grammar.specs.inside.Leads as plain
use Rattle.expression_grammar.specs.inside.Sound.{place}
use Rattle.expression_grammar.specs.inside.Wrote.{PathWrote, one_part, absolute_part, longer_parts}
use Rattle.expression_grammar.specs.inside.Wrote.{NameWrote}
use Rattle.expression_grammar.specs.inside.Wrote.{a_path, a_word, Wrote, a_call}
use Rattle.module_grammar.specs.inside.WroteModules.{annotation_tokens}
use Rattle.module_grammar.specs.inside.ModuleStates.{State, on, within, Begun, Site}
use Rattle.module_grammar.specs.inside.ModuleStates.{in_function_body, in_annotation, in_base}
use Rattle.module_grammar.specs.inside.ModuleMachine.{is_call_site, may_name, call_read, call_goes}
use Rattle.module_grammar.specs.inside.ModuleMachine.{call_outcome, call_step, value_step_of}
use Rattle.module_grammar.specs.inside.ModuleStates.{wrong}
use Rattle.module_grammar.specs.inside.ModuleMachine.{expression_step, module_sort_step}
use Rattle.module_grammar.specs.inside.ModuleStates.{expression}
use Rattle.module_grammar.specs.inside.ModuleMachine.{permitted, permitted_state}
use Rattle.module_grammar.specs.inside.ModuleLeads.{ModuleLeads, here, next}
use Rattle.expression_grammar.proofs.TakenLaws.{taken_goes}
use Rattle.expression_grammar.proofs.ReadsSorts.{type_sort}
use Rattle.expression_grammar.proofs.ReadsEdges.{within_room}
use Rattle.expression_grammar.proofs.ReadsLaws.{arguments_law}
use Rattle.module_grammar.proofs.ModuleCallBase.{base, is_call, After, StepAfter, Before, base_step}
use Rattle.module_grammar.proofs.ModuleReadsParts.{Way, way_on, stay, by_sort, IsKept}
use Rattle.module_grammar.proofs.ModuleReadsInner.{AnnotationLaw}
use Rattle.module_grammar.proofs.ModuleReadsSites.{BaseLaw}
use Rattle.module_grammar.proofs.ModuleReadsShut.{IsGoing}
use Rattle.module_grammar.proofs.ModuleReadsValues.{MayBegin, site_permits, taken_not_deferred}

-- Once a call is closed that stands over no frames, no other one is closed there.

before_from : (mode : Mode) (frames : List Frame) → After false mode frames →
    Before false mode frames
before_from mode (frame ∷ frames) is = is
before_from (complete tree) [] is = refl
before_from (field_wanted tree) [] is = refl
before_from mode [] is = absurd is

sort_after : (b : Bool) (limit : ℕ) (mode : Mode) (frames : List Frame) (sort : Sort) (own : Span) →
    Before b mode frames → StepAfter b (sort_step limit mode frames sort own)
sort_after b limit mode frames (left_out text) own is = tt
sort_after b limit mode frames sort own is = base_step b limit mode frames sort own is

taken_after : (b strict : Bool) (limit : ℕ) (mode : Mode) (frames : List Frame) (token : Token)
    (coming : Mode) (below : List Frame) →
    taken strict limit mode frames token ≡ goes coming below →
    Before b mode frames → After b coming below
taken_after b strict limit mode frames token coming below is stood =
    subst (StepAfter b) (taken_goes strict limit mode frames token coming below is)
    (sort_after b limit mode frames (sort_of token.kind) (place token) stood)

stays_before : (strict : Bool) (limit : ℕ) (mode last : Mode) (frames last_frames : List Frame)
    (tokens : List Token) → Leads strict limit mode frames tokens last last_frames →
    Before false mode frames → Before false last last_frames
stays_before strict limit mode last frames last_frames tokens (plain.here _ _) stood = stood
stays_before strict limit mode last frames last_frames tokens
    (plain.next _ _ token rest coming _ below _ is more) stood =
    stays_before strict limit coming last below last_frames rest more
    (before_from coming below
    (taken_after false strict limit mode frames token coming below is stood))

never_closes : (limit : ℕ) (last : Mode) (last_frames : List Frame) (own : Span) (tree : Tree) →
    is_call tree ≡ true → mode_step limit last last_frames closing own ≡ goes (complete tree) [] →
    Before false last last_frames → ⊥
never_closes limit last last_frames own tree of closes_it stood =
    false≢true (sym (subst (StepAfter false) closes_it
    (base_step false limit last last_frames closing own stood)) ∙ of)

-- Steps.

call_may : (strict : Bool) (site : Site) → is_call_site site ≡ true → MayBegin strict site
call_may strict (in_function_body fronted parameters frequency annotations) of =
    absurd (false≢true of)
call_may strict site of = tt

site_takes : (limit : ℕ) (begun : Begun) (site : Site) → is_call_site site ≡ true → (mode : Mode)
    (frames : List Frame) (sort : Sort) (own : Span) →
    expression_step limit begun site mode frames sort own
    ≡ call_step limit begun site mode frames sort own
site_takes limit begun site of mode frames sort own =
    cond-true (is_call_site site) (call_step limit begun site mode frames sort own)
    (value_step_of limit begun site mode frames sort own) of

over_none : (limit : ℕ) (begun : Begun) (site : Site) (mode : Mode) (sort : Sort) (own : Span)
    (coming : Mode) (below : List Frame) → may_name mode sort ≡ true →
    mode_step (suc limit) mode [] sort own ≡ goes coming below →
    call_step limit begun site mode [] sort own ≡ on (call_goes begun site coming below)
over_none limit begun site mode sort own coming below may is =
    cond-true (may_name mode sort)
    (call_outcome begun site (mode_step (suc limit) mode [] sort own)) wrong may
    ∙ ap (call_outcome begun site) is

call_permits : (begun : Begun) (site : Site) → is_call_site site ≡ true → (mode : Mode)
    (frames : List Frame) → is_deferred mode ≡ false →
    permitted_state (within begun (expression site mode frames))
    ≡ on (within begun (expression site mode frames))
call_permits begun site of mode frames plain_mode =
    site_permits begun site mode frames (call_may true site of) plain_mode

-- Names.

name_takes : {strict : Bool} {limit : ℕ} {begun : Begun} {site : Site} {last : State}
    {token : Token} {tokens : List Token} → is_call_site site ≡ true → (mode : Mode) (sort : Sort)
    (coming : Mode) → sort_of token.kind ≡ sort → IsKept sort → may_name mode sort ≡ true →
    mode_step (suc limit) mode [] sort (place token) ≡ goes coming [] →
    call_goes begun site coming [] ≡ within begun (expression site coming []) →
    is_deferred coming ≡ false →
    Way strict limit (within begun (expression site coming [])) tokens last →
    Way strict limit (within begun (expression site mode [])) (token ∷ tokens) last
name_takes {strict} {limit} {begun} {site} {last} {token} {tokens} of mode sort coming is kept may
    step_is stays plain_mode rest =
    by_sort (within begun (expression site coming [])) sort is kept
    (λ number. site_takes limit begun site of mode [] sort (place token)
    ∙ (over_none limit begun site mode sort (place token) coming [] may step_is ∙ ap on stays))
    (call_permits begun site of coming [] plain_mode) rest

path_way : (strict : Bool) (limit : ℕ) (begun : Begun) (site : Site) → is_call_site site ≡ true →
    (path : Path) (tokens : List Token) → PathWrote path tokens →
    Way strict limit (within begun (expression site wanted [])) tokens
    (within begun (expression site (part_read in_expression path) []))
path_way strict limit begun site of path tokens (one_part word text is) =
    let after = part_read in_expression (first_part text (place word)) in
    name_takes of wanted (identifier text) after (ap sort_of is) tt refl
    (within_room (suc limit) [] 1 (goes after []) (omega arith)) refl refl stay
path_way strict limit begun site of path tokens (absolute_part mark word text m is) =
    let front = absolute_path (place mark) in
    name_takes of wanted double_colon (part_wanted in_expression front) (ap sort_of m.is) tt refl
    (within_room (suc limit) [] 1 (goes (part_wanted in_expression front) []) (omega arith))
    refl refl
    (name_takes of (part_wanted in_expression front) (identifier text)
    (part_read in_expression (longer_path front text (place word))) (ap sort_of is) tt refl refl
    refl refl stay)
path_way strict limit begun site of path tokens (longer_parts front names mark word text parts m
    is) =
    way_on (within begun (expression site (part_read in_expression front) []))
    (path_way strict limit begun site of front names parts)
    (name_takes of (part_read in_expression front) double_colon (part_wanted in_expression front)
    (ap sort_of m.is) tt refl refl refl refl
    (name_takes of (part_wanted in_expression front) (identifier text)
    (part_read in_expression (longer_path front text (place word))) (ap sort_of is) tt refl refl
    refl refl stay))

-- the name of a call is read
record NameRead (strict : Bool) (limit : ℕ) (begun : Begun) (site : Site) (name : Name)
    (tokens : List Token) : Type 0 where
  last : Mode
  leads : Way strict limit (within begun (expression site wanted [])) tokens
      (within begun (expression site last []))
  may : may_name last opening ≡ true
  opens : (own : Span) → mode_step (suc limit) last [] opening own
      ≡ goes first_argument (in_arguments name [] false None ∷ [])

name_read : (strict : Bool) (limit : ℕ) (begun : Begun) (site : Site) → is_call_site site ≡ true →
    (name : Name) (tokens : List Token) → NameWrote name tokens →
    NameRead strict limit begun site name tokens
name_read strict limit begun site of name tokens (a_path path _ wrote) = record {
  last = part_read in_expression path;
  leads = path_way strict limit begun site of path tokens wrote;
  may = refl;
  opens = λ own. refl;
}
name_read strict limit begun site of name tokens (a_word word number is is_type) = record {
  last = word_read in_expression (word_name number (place word));
  leads = name_takes of wanted (type_word number)
      (word_read in_expression (word_name number (place word)))
      (ap sort_of is ∙ type_sort number is_type) tt refl
      (within_room (suc limit) [] 1
      (goes (word_read in_expression (word_name number (place word))) []) (omega arith)) refl refl
      stay;
  may = refl;
  opens = λ own. refl;
}

-- Arguments.

call_above : (begun : Begun) (site : Site) (mode : Mode) (frame : Frame) (frames : List Frame) →
    call_goes begun site mode (frame ∷ frames)
    ≡ within begun (expression site mode (frame ∷ frames))
call_above begun site (complete tree) frame frames = refl
call_above begun site mode frame frames = refl

above_taken : (limit number : ℕ) (begun : Begun) (site : Site) → is_call_site site ≡ true →
    (mode : Mode) (frame : Frame) (frames : List Frame) (sort : Sort) (own : Span) (coming : Mode)
    (lower : Frame) (below : List Frame) →
    sort_step (suc limit) mode (frame ∷ frames) sort own ≡ goes coming (lower ∷ below) →
    module_sort_step limit number (within begun (expression site mode (frame ∷ frames))) sort own
    ≡ on (within begun (expression site coming (lower ∷ below)))
above_taken limit number begun site of mode frame frames (left_out text) own coming lower below is =
    absurd (subst IsGoing (sym is) tt)
above_taken limit number begun site of mode frame frames sort own coming lower below is =
    site_takes limit begun site of mode (frame ∷ frames) sort own
    ∙ (ap (call_outcome begun site) is ∙ ap on (call_above begun site coming lower below))

above_permitted : (strict : Bool) (begun : Begun) (site : Site) → is_call_site site ≡ true →
    (mode : Mode) (frames : List Frame) → (strict ≡ true → is_deferred mode ≡ false) →
    permitted strict (on (within begun (expression site mode frames)))
    ≡ on (within begun (expression site mode frames))
above_permitted true begun site of mode frames plain_mode =
    call_permits begun site of mode frames (plain_mode refl)
above_permitted false begun site of mode frames plain_mode = refl

closed_before : (mode : Mode) → After true mode [] → Before false mode []
closed_before (complete tree) is = refl
closed_before (field_wanted tree) is = refl
closed_before mode is = absurd is

record InnerRead (strict : Bool) (limit number : ℕ) (begun : Begun) (site : Site) (mode : Mode)
    (frames : List Frame) (tokens : List Token) (last : Mode) (last_frames : List Frame) : Type 0
  where
    leads : ModuleLeads strict limit number (within begun (expression site mode frames)) tokens
        (within begun (expression site last last_frames))
    based : base last_frames ≡ true

-- the call stays open until its own `)`
inner_read : (strict : Bool) (limit number : ℕ) (begun : Begun) (site : Site) →
    is_call_site site ≡ true → (mode last : Mode) (frames last_frames : List Frame)
    (tokens : List Token) → base frames ≡ true → (Before false last last_frames → ⊥) →
    Leads strict (suc limit) mode frames tokens last last_frames →
    InnerRead strict limit number begun site mode frames tokens last last_frames
inner_read strict limit number begun site of mode last frames last_frames tokens based never
    (plain.here _ _) =
    record { leads = here number (within begun (expression site mode frames)); based = based }
inner_read strict limit number begun site of mode last [] last_frames tokens based never
    (plain.next _ _ token rest coming _ below _ is more) =
    absurd (false≢true based)
inner_read strict limit number begun site of mode last (frame ∷ frames) last_frames tokens based
    never (plain.next _ _ token rest coming _ [] _ is more) =
    absurd (never (stays_before strict (suc limit) coming last [] last_frames rest more
    (closed_before coming
    (taken_after true strict (suc limit) mode (frame ∷ frames) token coming [] is based))))
inner_read strict limit number begun site of mode last (frame ∷ frames) last_frames tokens based
    never (plain.next _ _ token rest coming _ (lower ∷ below) _ is more) =
    let behind = inner_read strict limit (suc number) begun site of coming last (lower ∷ below)
    last_frames rest
    (taken_after true strict (suc limit) mode (frame ∷ frames) token coming (lower ∷ below)
    is based)
    never more in record {
      leads = next number (within begun (expression site mode (frame ∷ frames)))
          (within begun (expression site coming (lower ∷ below)))
          (within begun (expression site last last_frames)) token rest
          (ap (permitted strict) (above_taken limit number begun site of mode frame frames
          (sort_of token.kind) (place token) coming lower below
          (taken_goes strict (suc limit) mode (frame ∷ frames) token coming (lower ∷ below) is))
          ∙ above_permitted strict begun site of coming (lower ∷ below)
          (taken_not_deferred strict (suc limit) mode (frame ∷ frames) token coming (lower ∷ below)
          is)) behind.leads;
      based = behind.based;
    }

-- The whole call.

closing_taken : (limit : ℕ) (begun : Begun) (site : Site) → is_call_site site ≡ true → (mode : Mode)
    (frames : List Frame) (own : Span) (one : Annotation) → base frames ≡ true →
    mode_step (suc limit) mode frames closing own
    ≡ goes (complete (call one.name one.arguments one.span)) [] →
    expression_step limit begun site mode frames closing own
    ≡ on (within begun (call_read begun site one))
closing_taken limit begun site of mode [] own one based is = absurd (false≢true based)
closing_taken limit begun site of mode (frame ∷ frames) own one based is =
    site_takes limit begun site of mode (frame ∷ frames) closing own
    ∙ ap (call_outcome begun site) is

read_permitted : (begun : Begun) (site : Site) → is_call_site site ≡ true → (one : Annotation) →
    permitted_state (within begun (call_read begun site one))
    ≡ on (within begun (call_read begun site one))
read_permitted begun (in_annotation holder annotations) of one = refl
read_permitted begun (in_base fronted annotations) of one = refl
read_permitted begun site of one = absurd (false≢true of)

pub call_way : (strict : Bool) (limit : ℕ) (begun : Begun) (site : Site) →
    is_call_site site ≡ true → (name : Name) (arguments : Arguments) (span : Span)
    (tokens : List Token) → Wrote strict (call name arguments span) tokens →
    arguments_height arguments ≤ limit →
    Way strict limit (within begun (expression site wanted [])) tokens
    (within begun (call_read begun site (record {
      name = name;
      arguments = arguments;
      span = span;
    })))
call_way strict limit begun site of name own span tokens
    (a_call start close _ list names inners wrote s inner c) low =
    let front = name_read strict limit begun site of name names wrote in
    let over = in_arguments name [] false None ∷ [] in
    let inside = arguments_law strict (suc limit) list inners inner name [] (omega (arith, low)) in
    let one : Annotation = record {
      name = name;
      arguments = arguments_of list;
      span = from_to name.span.at close.end;
    } in
    let never = never_closes (suc limit) inside.last inside.last_frames (place close)
    (call name (arguments_of list) (from_to name.span.at close.end)) refl
    (inside.at_closing (place close)) in
    way_on (within begun (expression site front.last [])) front.leads
    (by_sort (within begun (expression site first_argument over)) opening (ap sort_of s.is) tt
    (λ number. site_takes limit begun site of front.last [] opening (place start)
    ∙ over_none limit begun site front.last opening (place start) first_argument over front.may
    (front.opens (place start)))
    (call_permits begun site of first_argument over refl)
    (way_on (within begun (expression site inside.last inside.last_frames))
    (λ number. (inner_read strict limit number begun site of first_argument inside.last over
    inside.last_frames inners refl never inside.leads).leads)
    (by_sort (within begun (call_read begun site one)) closing (ap sort_of c.is) tt
    (λ number. closing_taken limit begun site of inside.last inside.last_frames (place close) one
    (inner_read strict limit 0 begun site of first_argument inside.last over inside.last_frames
    inners refl never inside.leads).based (inside.at_closing (place close)))
    (read_permitted begun site of one) stay)))

pub annotation_law : (strict : Bool) (limit : ℕ) → AnnotationLaw strict limit
annotation_law strict limit begun holder done one tokens
    (annotation_tokens name arguments span _ wrote) low =
    call_way strict limit begun (in_annotation holder done) refl name arguments span tokens wrote
    low

pub base_law : (strict : Bool) (limit : ℕ) → BaseLaw strict limit
base_law strict limit begun fronted annotations name arguments span tokens wrote low =
    call_way strict limit begun (in_base fronted annotations) refl name arguments span tokens wrote
    low
