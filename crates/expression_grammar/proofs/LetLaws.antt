-- What the machine holds through a name's parts, and through the types and names of a let.
use Rattle.std.proofs.Common.{◌≡◌, ◌∙◌, sym, ap, subst, refl, ℕ, Bool, true, false, ◌==◌, List, []}
use Rattle.std.proofs.Common.{◌∷◌}
use Rattle.std.proofs.Common.{◌++◌, Some, None, codes, if◌then◌else◌}
use Rattle.std.proofs.lemmas.Bool.{eqb-true}
use Rattle.std.proofs.lemmas.List.{append_assoc}
use Rattle.mdl_lexer.specs.declared.token.Token.{Token}
use Rattle.mdl_lexer.specs.declared.token.Kind.TheVariants as kind
use Rattle.mdl_syntax.specs.declared.names.Name.{Name}
use Rattle.mdl_syntax.specs.declared.types.TypeTree.{TypeTree}
use Rattle.mdl_syntax.specs.declared.types.Size.TheVariants as size
use Rattle.mdl_syntax.specs.Words.{frequency_words}
use Rattle.mdl_syntax.specs.Levels.{mark_number}
use Rattle.mdl_syntax.specs.Placed.{place_of}
use Rattle.expression_grammar.specs.inside.Sorts.{IsOf}
use Rattle.expression_grammar.specs.inside.Stands.{NameStands, TypeStands}
use Rattle.expression_grammar.specs.inside.Machine.{Sort, Frame, Mode, Head, Let, Path, Purpose, goes, bad}
use Rattle.expression_grammar.specs.inside.Machine.{in_type, in_let, path_name, first_part}
use Rattle.expression_grammar.specs.inside.Machine.{identifier, integer, type_word}
use Rattle.expression_grammar.specs.inside.Machine.{binary_operator, double_colon}
use Rattle.expression_grammar.specs.inside.Machine.{opening_bracket, closing_bracket}
use Rattle.expression_grammar.specs.inside.Machine.{opening_brace, closing_brace, equals}
use Rattle.expression_grammar.specs.inside.Machine.{in_word, frequency_word}
use Rattle.expression_grammar.specs.inside.Machine.{absolute_path, longer_path, ident_at, type_of}
use Rattle.expression_grammar.specs.inside.Machine.{word_name}
use Rattle.expression_grammar.specs.inside.Machine.{type_step, head_step, let_begun_step, part_wanted_step}
use Rattle.expression_grammar.specs.inside.Machine.{part_step}
use Rattle.expression_grammar.specs.inside.Machine.{type_name_step, type_bracketed_step, type_sized_step}
use Rattle.expression_grammar.specs.inside.Machine.{equals_step, deferred_wanted_step, deferred_read_step}
use Rattle.expression_grammar.specs.inside.Machine.{deferred_closed_step, deferred_wanted, deferred_read}
use Rattle.expression_grammar.specs.inside.Machine.{deferred_closed}
use Rattle.expression_grammar.specs.inside.Machine.{name_wanted_step, next_step, in_step, mode_step}
use Rattle.expression_grammar.specs.inside.Machine.{part_wanted, part_read, word_read, let_begun}
use Rattle.expression_grammar.specs.inside.Machine.{head_wanted}
use Rattle.expression_grammar.specs.inside.Machine.{type_wanted, type_bracketed, type_sized, name_wanted}
use Rattle.expression_grammar.specs.inside.Machine.{equals_wanted, next_wanted, in_wanted}
use Rattle.expression_grammar.specs.inside.Machine.{in_initializer, in_body, wanted}
use Rattle.expression_grammar.specs.inside.Sound.{IsMark, IsReserved, LetStands, with_braces, without}
use Rattle.expression_grammar.specs.inside.Sound.{HeadStands}
use Rattle.expression_grammar.specs.inside.Sound.{place}
use Rattle.expression_grammar.specs.inside.Sound.{with_frequency, without_frequency, Around, let_front}
use Rattle.expression_grammar.specs.inside.Sound.{initializer_front, body_front, braced_body_front}
use Rattle.expression_grammar.specs.inside.Sound.{PathOpens}
use Rattle.expression_grammar.specs.inside.Sound.{absolute_front, longer_front, FrontStands, of_expression}
use Rattle.expression_grammar.specs.inside.Sound.{of_type}
use Rattle.expression_grammar.specs.inside.Sound.{Holds, is_wanted, part_is_wanted, part_is_read}
use Rattle.expression_grammar.specs.inside.Sound.{word_is_read}
use Rattle.expression_grammar.specs.inside.Sound.{let_is_begun, head_is_wanted, type_is_wanted}
use Rattle.expression_grammar.specs.inside.Sound.{type_is_bracketed}
use Rattle.expression_grammar.specs.inside.Sound.{type_is_sized, name_is_wanted, equals_is_wanted}
use Rattle.expression_grammar.specs.inside.Sound.{next_is_wanted}
use Rattle.expression_grammar.specs.inside.Sound.{in_is_wanted, in_is_wanted_closed, deferred_is_wanted}
use Rattle.expression_grammar.specs.inside.Sound.{deferred_is_read, deferred_is_closed}
use Rattle.expression_grammar.proofs.HoldLaws.{HoldsAt}
use Rattle.expression_grammar.proofs.FormLaws.{word_name_stands, first_part_stands, absolute_stands}
use Rattle.expression_grammar.proofs.FormLaws.{longer_path_stands, type_stands, sized_type_stands}
use Rattle.expression_grammar.proofs.FormLaws.{deferred_type_stands}
use Rattle.expression_grammar.proofs.KindLaws.{not_empty, not_empty_append, assoc_three}
use Rattle.expression_grammar.proofs.ListLaws.{no_initializers_stand}

-- A type's first token.

type_at : (sort : Sort) (token : Token) (head : Head) (frames : List Frame)
    (before heads : List Token) → IsOf sort token.kind → Around frames before →
    HeadStands head heads → head.at ≡ (place_of (heads ++ token ∷ [])).at →
    HoldsAt (type_step head frames sort (place token)) (before ++ (heads ++ token ∷ []))
type_at double_colon token head frames before heads is around front at =
    part_is_wanted frames before heads (token ∷ []) (in_type head) (absolute_path (place token))
    around
    (of_type head heads (token ∷ []) front at) (absolute_front token (record { is = is }))
type_at (identifier text) token head frames before heads is around front at =
    part_is_read frames before heads (token ∷ []) (in_type head) (first_part text (place token))
    around (of_type head heads (token ∷ []) front at) (first_part_stands text token is)
    (not_empty (ident_at text (place token)) [])
type_at (type_word number) token head frames before heads is around front at =
    word_is_read frames before heads (token ∷ []) (in_type head) (word_name number (place token))
    around (of_type head heads (token ∷ []) front at) (word_name_stands number token is.0)
type_at _ token head frames before heads is around front at = tt

type_keeps : (sort : Sort) (token : Token) (frames : List Frame) (before : List Token)
    (word : Token) (head : Head) → IsOf sort token.kind → Around frames before → head.at ≡ word.at →
    frequency_words head.frequency ≡ word.kind ∷ [] →
    HoldsAt (type_step head frames sort (place token)) ((before ++ word ∷ []) ++ token ∷ [])
type_keeps sort token frames before word head is around at freq =
    subst (λ tokens. HoldsAt (type_step head frames sort (place token)) tokens)
    (sym (append_assoc before (word ∷ []) (token ∷ []))) (type_at sort token head frames before
    (word ∷ []) is around (with_frequency word head at freq) at)

abbrev pub unread_head : Token → Head
unread_head token = record { at = token.at; frequency = None }

pub type_first_keeps : (sort : Sort) (token : Token) (frames : List Frame) (tokens : List Token) →
    IsOf sort token.kind → Around frames tokens →
    HoldsAt (type_step (unread_head token) frames sort (place token)) (tokens ++ token ∷ [])
type_first_keeps sort token frames tokens is around =
    type_at sort token (unread_head token) frames tokens [] is around
    (without_frequency (unread_head token) refl) refl

pub head_keeps : (sort : Sort) (token : Token) (frames : List Frame) (tokens : List Token) →
    IsOf sort token.kind → Around frames tokens → HoldsAt (head_step frames sort (place token))
    (tokens ++ token ∷ [])
head_keeps (frequency_word freq) token frames tokens is around =
    type_is_wanted frames tokens token (record { at = token.at; frequency = Some freq }) around refl
    is
head_keeps sort token frames tokens is around = type_first_keeps sort token frames tokens is around

-- A let's first tokens.

let_begun_keeps : (sort : Sort) (token : Token) (frames : List Frame) (before : List Token)
    (word : Token) → IsOf sort token.kind → Around frames before → IsReserved word (codes "let") →
    HoldsAt (let_begun_step word.at frames sort (place token)) ((before ++ word ∷ []) ++ token ∷ [])
let_begun_keeps opening_brace token frames before word is around lets =
    let held : Let = record { at = word.at; braces = true; initializers = [] } in
    subst (λ tokens. Holds head_wanted (in_let held ∷ frames) tokens)
    (sym (append_assoc before (word ∷ []) (token ∷ []))) (head_is_wanted (in_let held ∷ frames)
    (before ++ word ∷ token ∷ []) (let_front frames before (word ∷ token ∷ []) held around
    (with_braces word token [] [] lets (record { is = is }) no_initializers_stand)))
let_begun_keeps sort token frames before word is around lets =
    let held : Let = record { at = word.at; braces = false; initializers = [] } in
    head_keeps sort token (in_let held ∷ frames) (before ++ word ∷ []) is (let_front frames before
    (word ∷ []) held around (without word [] [] lets no_initializers_stand))

-- Parts of names, and names in types.

-- more behind a name changes nothing of where it begins
at_longer : (heads own more : List Token) → (own ≡ [] → ⊥) →
    (place_of (heads ++ own)).at ≡ (place_of (heads ++ (own ++ more))).at
at_longer [] [] more some = absurd (some refl)
at_longer [] (token ∷ own) more some = refl
at_longer (head ∷ heads) own more some = refl

front_longer : (purpose : Purpose) (heads own more : List Token) → (own ≡ [] → ⊥) →
    FrontStands purpose heads own → FrontStands purpose heads (own ++ more)
front_longer _ _ _ more some (of_expression own) = of_expression (own ++ more)
front_longer _ _ _ more some (of_type head heads own front at) =
    of_type head heads (own ++ more) front (at ∙ at_longer heads own more some)

held_behind : (mode : Mode) (frames : List Frame) (before heads own more : List Token) →
    Holds mode frames (before ++ (heads ++ (own ++ more))) →
    Holds mode frames ((before ++ (heads ++ own)) ++ more)
held_behind mode frames before heads own more =
    subst (λ tokens. Holds mode frames tokens) (assoc_three before heads own more)

path_opens_some : (path : Path) (own : List Token) → PathOpens path own → own ≡ [] → ⊥
path_opens_some _ _ (absolute_front mark is) = not_empty mark []
path_opens_some _ _ (longer_front path names mark stands some is) = not_empty_append names mark []

path_goes_on : (path : Path) (own : List Token) (text : List ℕ) (token : Token) →
    PathOpens path own → token.kind ≡ kind.Word text →
    NameStands (path_name (longer_path path text (place token))) (own ++ token ∷ [])
path_goes_on _ _ text token (absolute_front mark is) word = absolute_stands text mark token is.is
    word
path_goes_on _ _ text token (longer_front path names mark stands some is) word =
    subst (λ tokens. NameStands (path_name (longer_path path text (place token))) tokens)
    (sym (append_assoc names (mark ∷ []) (token ∷ []))) (longer_path_stands path text names mark
    token stands some is.is word)

part_wanted_keeps : (sort : Sort) (token : Token) (frames : List Frame)
    (before heads own : List Token) (purpose : Purpose) (path : Path) → IsOf sort token.kind →
    Around frames before → FrontStands purpose heads own → PathOpens path own →
    HoldsAt (part_wanted_step purpose path frames sort (place token))
    ((before ++ (heads ++ own)) ++ token ∷ [])
part_wanted_keeps (identifier text) token frames before heads own purpose path is around front
    opens =
    held_behind (part_read purpose (longer_path path text (place token))) frames before heads own
    (token ∷ []) (part_is_read frames before heads (own ++ token ∷ []) purpose
    (longer_path path text (place token)) around (front_longer purpose heads own (token ∷ [])
    (path_opens_some path own opens) front) (path_goes_on path own text token opens is)
    (not_empty_append path.parts (ident_at text (place token)) []))
part_wanted_keeps _ token frames before heads own purpose path is around front opens = tt

type_name_keeps : (sort : Sort) (token : Token) (frames : List Frame)
    (before heads own : List Token) (head : Head) (name : Name) → IsOf sort token.kind →
    Around frames before → FrontStands (in_type head) heads own → NameStands name own →
    HoldsAt (type_name_step head name frames sort (place token))
    ((before ++ (heads ++ own)) ++ token ∷ [])
type_name_keeps opening_bracket token frames before heads own head name is around front stands =
    held_behind (type_bracketed head name) frames before heads own (token ∷ [])
    (type_is_bracketed frames before heads own head name token around front stands
    (record { is = is }))
type_name_keeps (identifier text) token frames before heads own head name is around front stands =
    held_behind (equals_wanted head (type_of name size.One name.span.end)
    (ident_at text (place token))) frames before heads own (token ∷ [])
    (equals_is_wanted frames before heads own head (type_of name size.One name.span.end) text token
    around front (type_stands name own stands) is)
type_name_keeps _ token frames before heads own head name is around front stands = tt

type_part_keeps : (limit : ℕ) (sort : Sort) (token : Token) (frames : List Frame)
    (before heads own : List Token) (head : Head) (path : Path) → IsOf sort token.kind →
    Around frames before → FrontStands (in_type head) heads own → NameStands (path_name path) own →
    (path.parts ≡ [] → ⊥) → HoldsAt (part_step limit (in_type head) path frames sort (place token))
    ((before ++ (heads ++ own)) ++ token ∷ [])
type_part_keeps limit double_colon token frames before heads own head path is around front stands
    some =
    held_behind (part_wanted (in_type head) path) frames before heads own (token ∷ [])
    (part_is_wanted frames before heads (own ++ token ∷ []) (in_type head) path around
    (front_longer (in_type head) heads own (token ∷ []) stands.some front)
    (longer_front path own token stands some (record { is = is })))
type_part_keeps limit sort token frames before heads own head path is around front stands some =
    type_name_keeps sort token frames before heads own head (path_name path) is around front stands

-- Sizes of types.

-- a name and the tokens of its size so far, with one more
held_longer : (mode : Mode) (frames : List Frame) (before heads names own more : List Token) →
    Holds mode frames (before ++ (heads ++ (names ++ (own ++ more)))) →
    Holds mode frames ((before ++ (heads ++ (names ++ own))) ++ more)
held_longer mode frames before heads names own more holds =
    held_behind mode frames before heads (names ++ own) more
    (subst (λ tokens. Holds mode frames (before ++ (heads ++ tokens)))
    (sym (append_assoc names own more)) holds)

-- an operator with a mark's number is the mark
mark_by_number : (token : Token) (op : ℕ) (text : List ℕ) → token.kind ≡ kind.Mark op →
    (op == mark_number text) ≡ true → IsMark token text
mark_by_number token op text is same =
    record { is = is ∙ ap kind.Mark (eqb-true op (mark_number text) same) }

type_bracketed_keeps : (sort : Sort) (token : Token) (frames : List Frame)
    (before heads names : List Token) (head : Head) (name : Name) (mark : Token) →
    IsOf sort token.kind → Around frames before → FrontStands (in_type head) heads names →
    NameStands name names → IsMark mark (codes "[") →
    HoldsAt (type_bracketed_step head name frames sort) ((before ++ (heads ++ (names ++ mark ∷ [])))
    ++ token ∷ [])
type_bracketed_keeps (integer value) token frames before heads names head name mark is around front
    stands opens =
    held_longer (type_sized head name value) frames before heads names (mark ∷ []) (token ∷ [])
    (type_is_sized frames before heads names head name mark token value around front stands opens
    is)
type_bracketed_keeps (binary_operator op level) token frames before heads names head name mark is
    around
    front stands opens = by (op == mark_number (codes "<")) refl
  where
    by : (same : Bool) → (op == mark_number (codes "<")) ≡ same →
        HoldsAt (if same then goes (deferred_wanted head name) frames else bad)
        ((before ++ (heads ++ (names ++ mark ∷ []))) ++ token ∷ [])
    by true same =
        held_longer (deferred_wanted head name) frames before heads names (mark ∷ []) (token ∷ [])
        (deferred_is_wanted frames before heads names head name mark token around front stands opens
        (mark_by_number token op (codes "<") is.0 same))
    by false same = tt
type_bracketed_keeps _ token frames before heads names head name mark is around front stands opens =
    tt

type_sized_keeps : (sort : Sort) (token : Token) (frames : List Frame)
    (before heads names : List Token) (head : Head) (name : Name) (mark number : Token)
    (value : ℕ) → IsOf sort token.kind → Around frames before →
    FrontStands (in_type head) heads names → NameStands name names → IsMark mark (codes "[") →
    number.kind ≡ kind.Int value →
    HoldsAt (type_sized_step head name value frames sort (place token))
    ((before ++ (heads ++ (names ++ mark ∷ number ∷ []))) ++ token ∷ [])
type_sized_keeps closing_bracket token frames before heads names head name mark number value is
    around front stands opens counts =
    held_longer (name_wanted head (type_of name (size.Sized value) token.end)) frames before heads
    names (mark ∷ number ∷ []) (token ∷ []) (name_is_wanted frames before heads
    (names ++ mark ∷ number ∷ token ∷ []) head (type_of name (size.Sized value) token.end) around
    (front_longer (in_type head) heads names (mark ∷ number ∷ token ∷ []) stands.some front)
    (sized_type_stands name value names mark number token stands opens.is counts is))
type_sized_keeps _ token frames before heads names head name mark number value is around front
    stands opens counts = tt

-- Deferred sizes.

deferred_wanted_keeps : (sort : Sort) (token : Token) (frames : List Frame)
    (before heads names : List Token) (head : Head) (name : Name) (mark less : Token) →
    IsOf sort token.kind → Around frames before → FrontStands (in_type head) heads names →
    NameStands name names → IsMark mark (codes "[") → IsMark less (codes "<") →
    HoldsAt (deferred_wanted_step head name frames sort (place token))
    ((before ++ (heads ++ (names ++ mark ∷ less ∷ []))) ++ token ∷ [])
deferred_wanted_keeps (identifier text) token frames before heads names head name mark less is
    around front stands opens begins =
    held_longer (deferred_read head name (ident_at text (place token))) frames before heads names
    (mark ∷ less ∷ []) (token ∷ []) (deferred_is_read frames before heads names head name mark less
    token text around front stands opens begins is)
deferred_wanted_keeps _ token frames before heads names head name mark less is around front stands
    opens
    begins = tt

deferred_read_keeps : (sort : Sort) (token : Token) (frames : List Frame)
    (before heads names : List Token) (head : Head) (name : Name) (mark less word : Token)
    (text : List ℕ) → IsOf sort token.kind → Around frames before →
    FrontStands (in_type head) heads names → NameStands name names → IsMark mark (codes "[") →
    IsMark less (codes "<") → word.kind ≡ kind.Word text →
    HoldsAt (deferred_read_step head name (ident_at text (place word)) frames sort)
    ((before ++ (heads ++ (names ++ mark ∷ less ∷ word ∷ []))) ++ token ∷ [])
deferred_read_keeps (binary_operator op level) token frames before heads names head name mark less
    word text is around front stands opens begins reads = by (op == mark_number (codes ">")) refl
  where
    by : (same : Bool) → (op == mark_number (codes ">")) ≡ same →
        HoldsAt (if same then goes (deferred_closed head name (ident_at text (place word))) frames
        else bad) ((before ++ (heads ++ (names ++ mark ∷ less ∷ word ∷ []))) ++ token ∷ [])
    by true same =
        held_longer (deferred_closed head name (ident_at text (place word))) frames before heads
        names (mark ∷ less ∷ word ∷ []) (token ∷ []) (deferred_is_closed frames before heads names
        head name mark less word token text around front stands opens begins reads
        (mark_by_number token op (codes ">") is.0 same))
    by false same = tt
deferred_read_keeps _ token frames before heads names head name mark less word text is around front
    stands opens begins reads = tt

deferred_closed_keeps : (sort : Sort) (token : Token) (frames : List Frame)
    (before heads names : List Token) (head : Head) (name : Name) (mark less word greater : Token)
    (text : List ℕ) → IsOf sort token.kind → Around frames before →
    FrontStands (in_type head) heads names → NameStands name names → IsMark mark (codes "[") →
    IsMark less (codes "<") → word.kind ≡ kind.Word text → IsMark greater (codes ">") →
    HoldsAt (deferred_closed_step head name (ident_at text (place word)) frames sort (place token))
    ((before ++ (heads ++ (names ++ mark ∷ less ∷ word ∷ greater ∷ []))) ++ token ∷ [])
deferred_closed_keeps closing_bracket token frames before heads names head name mark less word
    greater text
    is around front stands opens begins reads ends =
    let ty = type_of name (size.Deferred (ident_at text (place word))) token.end in
    held_longer (name_wanted head ty) frames before heads names (mark ∷ less ∷ word ∷ greater ∷ [])
    (token ∷ []) (name_is_wanted frames before heads (names ++ mark ∷ less ∷ word ∷ greater ∷ token
    ∷ []) head ty around (front_longer (in_type head) heads names (mark ∷ less ∷ word ∷ greater
    ∷ token ∷ []) stands.some front) (deferred_type_stands name text names mark less word greater
    token stands opens.is begins.is reads ends.is is))
deferred_closed_keeps _ token frames before heads names head name mark less word greater text is
    around front stands opens begins reads ends = tt

-- The name behind a type.

name_wanted_keeps : (sort : Sort) (token : Token) (frames : List Frame)
    (before heads types : List Token) (head : Head) (ty : TypeTree) → IsOf sort token.kind →
    Around frames before → FrontStands (in_type head) heads types → TypeStands ty types →
    HoldsAt (name_wanted_step head ty frames sort (place token))
    ((before ++ (heads ++ types)) ++ token ∷ [])
name_wanted_keeps (identifier text) token frames before heads types head ty is around front stands =
    held_behind (equals_wanted head ty (ident_at text (place token))) frames before heads types
    (token ∷ []) (equals_is_wanted frames before heads types head ty text token around front stands
    is)
name_wanted_keeps _ token frames before heads types head ty is around front stands = tt

-- what stands in front where the first frame is a let
pub record BehindLet (held : Let) (frames : List Frame) (all : List Token) : Type 0 where
  pub before : List Token
  pub tokens : List Token
  pub around : Around frames before
  pub stands : LetStands held tokens
  pub are : before ++ tokens ≡ all

abbrev LetFirst : List Frame → List Token → Type 0
LetFirst (in_let held ∷ frames) all = BehindLet held frames all
LetFirst _ all = Unit {0}

let_first : (frames : List Frame) (all : List Token) → Around frames all → LetFirst frames all
let_first _ _ (let_front frames before tokens held around stands) =
    record { before = before; tokens = tokens; around = around; stands = stands; are = refl }
let_first _ _ _ = tt

behind_let : (held : Let) (frames : List Frame) (all : List Token) →
    Around (in_let held ∷ frames) all → BehindLet held frames all
behind_let held frames all around = let_first (in_let held ∷ frames) all around

-- The end of a let's front.

type_front : (head : Head) (heads own : List Token) → FrontStands (in_type head) heads own →
    HeadStands head heads × (head.at ≡ (place_of (heads ++ own)).at)
type_front _ _ _ (of_type head heads own front at) = (front, at)

equals_joined : (held : Let) (frames : List Frame) (all heads types : List Token)
    (word token : Token) (front : BehindLet held frames all) →
    front.before ++ (front.tokens ++ (heads ++ (types ++ word ∷ token ∷ [])))
    ≡ (all ++ (heads ++ (types ++ word ∷ []))) ++ token ∷ []
equals_joined held frames all heads types word token front =
    sym (append_assoc front.before front.tokens (heads ++ (types ++ word ∷ token ∷ [])))
    ∙ (ap (λ tokens. tokens ++ (heads ++ (types ++ word ∷ token ∷ []))) front.are
    ∙ (ap (λ tokens. all ++ (heads ++ tokens)) (sym (append_assoc types (word ∷ []) (token ∷ [])))
    ∙ assoc_three all heads (types ++ word ∷ []) (token ∷ [])))

equals_within : (frames : List Frame) (sort : Sort) (token : Token)
    (before heads types : List Token) (head : Head) (ty : TypeTree) (text : List ℕ) (word : Token) →
    IsOf sort token.kind → Around frames before → FrontStands (in_type head) heads types →
    TypeStands ty types → word.kind ≡ kind.Word text →
    HoldsAt (equals_step head ty (ident_at text (place word)) frames sort)
    ((before ++ (heads ++ (types ++ word ∷ []))) ++ token ∷ [])
equals_within (in_let held ∷ frames) equals token before heads types head ty text word is around
    front stands names = by (behind_let held frames before around)
    (type_front head heads types front)
  where
    by : BehindLet held frames before → HeadStands head heads ×
        (head.at ≡ (place_of (heads ++ types)).at) →
        Holds wanted (in_initializer held head ty (ident_at text (place word)) ∷ frames)
        ((before ++ (heads ++ (types ++ word ∷ []))) ++ token ∷ [])
    by behind fronts =
        subst (λ tokens. Holds wanted (in_initializer held head ty (ident_at text (place word))
        ∷ frames) tokens) (equals_joined held frames before heads types word token behind)
        (is_wanted (in_initializer held head ty (ident_at text (place word)) ∷ frames)
        (behind.before ++ (behind.tokens ++ (heads ++ (types ++ word ∷ token ∷ []))))
        (initializer_front frames behind.before behind.tokens heads types word token held head ty
        text
        behind.around behind.stands fronts.0 stands fronts.1 names (record { is = is })))
equals_within _ _ token before heads types head ty text word is around front stands names = tt

equals_keeps : (sort : Sort) (token : Token) (frames : List Frame) (before heads types : List Token)
    (head : Head) (ty : TypeTree) (text : List ℕ) (word : Token) → IsOf sort token.kind →
    Around frames before → FrontStands (in_type head) heads types → TypeStands ty types →
    word.kind ≡ kind.Word text →
    HoldsAt (equals_step head ty (ident_at text (place word)) frames sort)
    ((before ++ (heads ++ (types ++ word ∷ []))) ++ token ∷ [])
equals_keeps sort token frames = equals_within frames sort token

behind_joined : (held : Let) (frames : List Frame) (all : List Token) (token : Token)
    (front : BehindLet held frames all) → front.before ++ (front.tokens ++ token ∷ [])
    ≡ all ++ token ∷ []
behind_joined held frames all token front =
    sym (append_assoc front.before front.tokens (token ∷ [])) ∙ ap (λ tokens. tokens ++ token ∷ [])
    front.are

next_keeps : (sort : Sort) (token : Token) (frames : List Frame) (tokens : List Token)
    (held : Let) → IsOf sort token.kind → Around (in_let held ∷ frames) tokens →
    held.braces ≡ true → HoldsAt (next_step (in_let held ∷ frames) sort (place token))
    (tokens ++ token ∷ [])
next_keeps closing_brace token frames tokens held is around braces = by
    (behind_let held frames tokens around)
  where
    by : BehindLet held frames tokens →
        Holds in_wanted (in_let held ∷ frames) (tokens ++ token ∷ [])
    by behind =
        subst (λ all. Holds in_wanted (in_let held ∷ frames) all) (behind_joined held frames tokens
        token behind) (in_is_wanted_closed frames behind.before behind.tokens held token
        behind.around behind.stands braces
        (record { is = is }))
next_keeps sort token frames tokens held is around braces =
    head_keeps sort token (in_let held ∷ frames) tokens is around

in_keeps : (sort : Sort) (token : Token) (frames : List Frame) (tokens : List Token) (held : Let) →
    IsOf sort token.kind → Around (in_let held ∷ frames) tokens → held.braces ≡ false →
    HoldsAt (in_step (in_let held ∷ frames) sort) (tokens ++ token ∷ [])
in_keeps in_word token frames tokens held is around braces = by
    (behind_let held frames tokens around)
  where
    by : BehindLet held frames tokens → Holds wanted (in_body held ∷ frames) (tokens ++ token ∷ [])
    by behind =
        subst (λ all. Holds wanted (in_body held ∷ frames) all) (behind_joined held frames tokens
        token behind) (is_wanted (in_body held ∷ frames)
        (behind.before ++ (behind.tokens ++ token ∷ [])) (body_front frames behind.before
        behind.tokens token held behind.around behind.stands braces
        (record { is = is })))
in_keeps _ token frames tokens held is around braces = tt

in_closed_keeps : (sort : Sort) (token : Token) (frames : List Frame) (before tokens : List Token)
    (held : Let) (close : Token) → IsOf sort token.kind → Around frames before →
    LetStands held tokens → held.braces ≡ true → IsMark close (codes "}") →
    HoldsAt (in_step (in_let held ∷ frames) sort) ((before ++ (tokens ++ close ∷ [])) ++ token ∷ [])
in_closed_keeps in_word token frames before tokens held close is around stands braces closes =
    held_behind wanted (in_body held ∷ frames) before tokens (close ∷ []) (token ∷ [])
    (is_wanted (in_body held ∷ frames) (before ++ (tokens ++ close ∷ token ∷ []))
    (braced_body_front frames before tokens close token held around stands braces closes
    (record { is = is })))
in_closed_keeps _ token frames before tokens held close is around stands braces closes = tt

-- All of these modes at once.

-- the modes of a let's front, and a name's part that is wanted anywhere
abbrev OfLet : Mode → Type 0
OfLet (part_wanted purpose path) = Unit {0}
OfLet (part_read (in_type head) path) = Unit {0}
OfLet (word_read (in_type head) name) = Unit {0}
OfLet (let_begun at) = Unit {0}
OfLet head_wanted = Unit {0}
OfLet (type_wanted head) = Unit {0}
OfLet (type_bracketed head name) = Unit {0}
OfLet (type_sized head name value) = Unit {0}
OfLet (deferred_wanted head name) = Unit {0}
OfLet (deferred_read head name ident) = Unit {0}
OfLet (deferred_closed head name ident) = Unit {0}
OfLet (name_wanted head ty) = Unit {0}
OfLet (equals_wanted head ty name) = Unit {0}
OfLet next_wanted = Unit {0}
OfLet in_wanted = Unit {0}
OfLet _ = ⊥

pub let_keeps : (limit : ℕ) (mode : Mode) (frames : List Frame) (tokens : List Token) (sort : Sort)
    (token : Token) → OfLet mode → IsOf sort token.kind → Holds mode frames tokens →
    HoldsAt (mode_step limit mode frames sort (place token)) (tokens ++ token ∷ [])
let_keeps limit _ _ _ sort token of is (part_is_wanted frames before heads own purpose path around
    front
    opens) =
    part_wanted_keeps sort token frames before heads own purpose path is around front opens
let_keeps limit _ _ _ sort token of is (part_is_read frames before heads own (in_type head) path
    around front stands some) =
    type_part_keeps limit sort token frames before heads own head path is around front stands some
let_keeps limit _ _ _ sort token of is (word_is_read frames before heads own (in_type head) name
    around front stands) =
    type_name_keeps sort token frames before heads own head name is around front stands
let_keeps limit _ _ _ sort token of is (let_is_begun frames before word around lets) =
    let_begun_keeps sort token frames before word is around lets
let_keeps limit _ _ _ sort token of is (head_is_wanted frames before around) =
    head_keeps sort token frames before is around
let_keeps limit _ _ _ sort token of is (type_is_wanted frames before word head around at freq) =
    type_keeps sort token frames before word head is around at freq
let_keeps limit _ _ _ sort token of is (type_is_bracketed frames before heads names head name mark
    around front stands opens) =
    type_bracketed_keeps sort token frames before heads names head name mark is around front stands
    opens
let_keeps limit _ _ _ sort token of is (type_is_sized frames before heads names head name mark
    number value around front stands opens counts) =
    type_sized_keeps sort token frames before heads names head name mark number value is around
    front stands opens counts
let_keeps limit _ _ _ sort token of is (deferred_is_wanted frames before heads names head name mark
    less around front stands opens begins) =
    deferred_wanted_keeps sort token frames before heads names head name mark less is around front
    stands opens begins
let_keeps limit _ _ _ sort token of is (deferred_is_read frames before heads names head name mark
    less word text around front stands opens begins reads) =
    deferred_read_keeps sort token frames before heads names head name mark less word text is around
    front stands opens begins reads
let_keeps limit _ _ _ sort token of is (deferred_is_closed frames before heads names head name mark
    less word greater text around front stands opens begins reads ends) =
    deferred_closed_keeps sort token frames before heads names head name mark less word greater text
    is around front stands opens begins reads ends
let_keeps limit _ _ _ sort token of is (name_is_wanted frames before heads types head ty around
    front
    stands) =
    name_wanted_keeps sort token frames before heads types head ty is around front stands
let_keeps limit _ _ _ sort token of is (equals_is_wanted frames before heads types head ty text word
    around front stands names) =
    equals_keeps sort token frames before heads types head ty text word is around front stands names
let_keeps limit _ _ _ sort token of is (next_is_wanted frames tokens held around braces) =
    next_keeps sort token frames tokens held is around braces
let_keeps limit _ _ _ sort token of is (in_is_wanted frames tokens held around braces) =
    in_keeps sort token frames tokens held is around braces
let_keeps limit _ _ _ sort token of is (in_is_wanted_closed frames before tokens held close around
    stands braces closes) =
    in_closed_keeps sort token frames before tokens held close is around stands braces closes
let_keeps limit _ _ _ sort token of is _ = absurd of
