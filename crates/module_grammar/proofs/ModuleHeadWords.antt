-- Where tokens end the head of a function, the machine of modules stands behind one.
use Rattle.std.proofs.Common.{◌≡◌, ◌⊎◌, inl, inr, ◌∙◌, sym, ap, subst, refl, arith, ℕ, ◌+◌, ◌≤◌}
use Rattle.std.proofs.Common.{drop}
use Rattle.std.proofs.Common.{Bool, true, false, List, [], ◌∷◌, ◌++◌, length, take, None, codes}
use Rattle.std.proofs.lemmas.Bool.{false≢true}
use Rattle.mdl_lexer.specs.Kinds.{mark_word}
use Rattle.mdl_lexer.specs.declared.token.Token.{Token}
use Rattle.mdl_syntax.specs.declared.names.Span.{Span}
use Rattle.mdl_syntax.specs.Modules.{Declaration, ModuleTree, function}
use Rattle.mdl_syntax.specs.WrittenModules.{write_declaration, write_own, write_each, write_import}
use Rattle.mdl_syntax.specs.PlacedModules.{placed_each, placed_declaration, placed_module}
use Rattle.mdl_syntax.specs.Placed.{behind, tokens_of}
use Rattle.mdl_syntax.specs.AcceptedModules.{module_height}
use Rattle.module_grammar.specs.ModuleFaults.{EndsHead, IsPrototype}
use Rattle.expression_grammar.specs.Readings.{kinds}
use Rattle.expression_grammar.specs.inside.Machine.{from_to, semicolon}
use Rattle.module_grammar.specs.inside.ModuleMachine.{ModuleRun, module_read}
use Rattle.module_grammar.specs.inside.ModuleStates.{Begun, Position, State}
use Rattle.module_grammar.specs.inside.ModuleMachine.{module_end}
use Rattle.module_grammar.specs.inside.ModuleStates.{mdl_wanted, within, item_wanted, on}
use Rattle.module_grammar.specs.inside.ModuleStates.{annotated, the_module, with_declaration}
use Rattle.module_grammar.specs.inside.ModuleMachine.{module_step, module_taken, position_step}
use Rattle.module_grammar.specs.inside.ModuleLeads.{ModuleLeads, ModuleEnds}
use Rattle.module_grammar.specs.inside.ModuleHeads.{IsHead}
use Rattle.module_grammar.specs.inside.ModuleHolds.{ModuleHolds, EarlyAt, EarlyIf}
use Rattle.expression_grammar.proofs.KindLaws.{kinds_append, not_empty_append}
use Rattle.expression_grammar.proofs.FaultLaws.{words_front}
use Rattle.module_grammar.proofs.ModuleTakenLaws.{taken_on}
use Rattle.module_grammar.proofs.ModuleOutcomeLaws.{IsItem}
use Rattle.module_grammar.proofs.ModuleHeadEnds.{head_ends, head_before}
use Rattle.module_grammar.proofs.ModuleHeadWays.{reached_last, reached_holds}
use Rattle.module_grammar.proofs.ModuleFitsLaws.{module_ends_fits}
use Rattle.module_grammar.proofs.ModuleReadingLaws.{module_written_reads}
use Rattle.module_grammar.proofs.ModuleOpeningLaws.{module_ends_sound}
use Rattle.module_grammar.proofs.ModuleFaultLaws.{module_step_leads, same_way, ends_item}
use Rattle.module_grammar.proofs.ModuleToldSteps.{Told, semicolon_told}

-- `;`
abbrev pub last_mark : Token
last_mark = record { kind = mark_word (codes ";"); at = 0; end = 0 }

-- A head is one in words.

abbrev tree_from : Begun → ModuleTree
tree_from begun = record {
  version = begun.version;
  imports = begun.imports;
  annotations = begun.annotations;
  declarations = begun.declarations;
  span = from_to begun.at begun.end;
}

ended_head : (most : ℕ) → 1 ≤ most → (before : List Token) (begun : Begun) (one : Declaration)
    (end : ℕ) → IsPrototype one →
    ModuleLeads false most 0 mdl_wanted (before ++ last_mark ∷ []) (with_declaration begun one end)
    →
    EndsHead (kinds before)
ended_head most some before begun one end prototype leads = by (record {
  last = with_declaration begun one end;
  leads = leads;
  ends = λ whole at. refl;
})
  where
    by : ModuleEnds false most 0 mdl_wanted (before ++ last_mark ∷ []) (tree_from (record begun {
      declarations = begun.declarations ++ one ∷ [];
      end = end;
    })) → EndsHead (kinds before)
    by ends =
        let sound = module_ends_sound false most (before ++ last_mark ∷ []) _ ends in
        let fit = module_ends_fits false most 0 (before ++ last_mark ∷ []) _ some ends in
        record {
          tree = _;
          is = fit.0;
          before = begun.declarations;
          last = one;
          are = refl;
          prototype = prototype;
          writes = sound.0 ∙ kinds_append before (last_mark ∷ []);
        }

pub head_words : (strict : Bool) (most : ℕ) → 1 ≤ most → (before : List Token) (state : State) →
    ModuleLeads strict most 0 mdl_wanted before state → IsHead state → EndsHead (kinds before)
head_words strict most some before state leads head =
    let (begun, one, end, prototype, is) = head_ends most (length before) state last_mark head
    (record { is = refl }) in
    ended_head most some before begun one end prototype (module_step_leads strict most before
    last_mark state (with_declaration begun one end) leads is)

pub head_stands : (strict : Bool) (most : ℕ) → 1 ≤ most → (before rest : List Token)
    (state : State) → ModuleLeads strict most 0 mdl_wanted before state → IsHead state →
    EndsHead (take (length before) (kinds (before ++ rest)))
head_stands strict most some before rest state leads head =
    subst EndsHead (sym (words_front before rest)) (head_words strict most some before state leads
    head)

-- And the other way.

placed_last : (more : ℕ) (before : List Declaration) (last : Declaration) (tokens : List Token) →
    (front : List Declaration) × (own : List Token)
    × (placed_each write_declaration placed_declaration more (before ++ last ∷ []) tokens
    ≡ front ++ placed_declaration last own ∷ [])
placed_last more [] last tokens = ([], tokens_of (write_declaration last) tokens, refl)
placed_last more (first ∷ before) last tokens =
    let (front, own, is) = placed_last more before last
    (behind (write_declaration first) more tokens) in (
      placed_declaration first (tokens_of (write_declaration first) tokens) ∷ front,
      own,
      ap (λ l. placed_declaration first (tokens_of (write_declaration first) tokens) ∷ l) is,
    )

placed_prototype : (last : Declaration) (own : List Token) → IsPrototype last →
    IsPrototype (placed_declaration last own)
placed_prototype (function exported ty name parameters frequency annotations None span) own is = tt
placed_prototype last own is = absurd is

abbrev declarations_of : ModuleRun → List Declaration
declarations_of (module_read tree) = tree.declarations
declarations_of _ = []

item_is : (state : State) → IsItem state →
    (begun : Begun) × (early : Bool) × (state ≡ within begun (item_wanted early))
item_is (within begun (item_wanted early)) is = (begun, early, refl)
item_is state is = absurd is

-- the last `;` of a prototype adds a declaration
adds_last : (limit token : ℕ) (own begun : Begun) (position : Position) (early : Bool)
    (place : Span) (before : List Declaration) (one : Declaration) → EarlyAt position own →
    EarlyIf early begun →
    position_step limit token own position semicolon place ≡ on (within begun (item_wanted early)) →
    begun.declarations ≡ own.declarations → begun.declarations ≡ before ++ one ∷ [] → ⊥
adds_last limit token own begun position true place before one early was is same are =
    not_empty_append before one [] (sym are ∙ was.declarations)
adds_last limit token own begun (annotated the_module annotations end) false place before one early
    was is same are =
    not_empty_append before one [] (sym are ∙ (same ∙ early.declarations))
adds_last limit token own begun position false place before one early was is same are =
    subst (Told (Unit {0}) own) is (semicolon_told limit token own position place (λ none. none))
    same

in_item : (limit number : ℕ) (before : List Token) (mid : State) (begun : Begun) (early : Bool)
    (declarations : List Declaration) (one : Declaration) → ModuleHolds mid before →
    ModuleHolds (within begun (item_wanted early)) (before ++ last_mark ∷ []) →
    module_step limit number mid last_mark ≡ on (within begun (item_wanted early)) →
    begun.declarations ≡ declarations ++ one ∷ [] → IsPrototype one → IsHead mid
in_item limit number before mid begun early declarations one holds after is are prototype =
    by (head_before limit number mid last_mark begun early is declarations one are prototype)
  where
    by : IsHead mid ⊎ ((own : Begun) × (position : Position) × (mid ≡ within own position)
        × (begun.declarations ≡ own.declarations)) → IsHead mid
    by (inl head) = head
    by (inr (own, position, state_is, same)) =
        absurd (adds_last limit number own begun position early (from_to 0 0) declarations one
        (subst (λ (s : State). ModuleHolds s before) state_is holds).early after.early
        (subst (λ (s : State). module_step limit number s last_mark
        ≡ on (within begun (item_wanted early))) state_is is) same are)

pub head_reached : (strict : Bool) (most : ℕ) (before : List Token) (state : State) →
    ModuleLeads strict most 0 mdl_wanted before state → EndsHead (kinds before) → IsHead state
head_reached strict most before state leads head =
    by (module_written_reads false higher head.tree (before ++ last_mark ∷ []) head.is
    (λ is. absurd (false≢true is)) (λ is. absurd (false≢true is)) (omega arith)
    (head.writes ∙ sym (kinds_append before (last_mark ∷ []))))
  where
    higher : ℕ
    higher = module_height head.tree + most

    by : ModuleEnds false higher 0 mdl_wanted (before ++ last_mark ∷ [])
        (placed_module head.tree (before ++ last_mark ∷ [])) → IsHead state
    by ends =
        let (mid, first, is) = reached_last false higher ends.last before last_mark ends.leads in
        let (begun, early, last_is) = item_is ends.last (ends_item ends.last _ ends.ends) in
        let (front, own, placed_is) = placed_last 0 head.before head.last
        (behind_own (before ++ last_mark ∷ [])) in
        subst IsHead (same_way strict most higher 0 mdl_wanted state mid before (omega arith) leads
        first)
        (in_item higher (length before) before mid begun early front
        (placed_declaration head.last own)
        (reached_holds false higher before mid first)
        (subst (λ (s : State). ModuleHolds s (before ++ last_mark ∷ [])) last_is
        (reached_holds false higher (before ++ last_mark ∷ []) ends.last ends.leads))
        (taken_on false higher (length before) mid last_mark (within begun (item_wanted early))
        (subst (λ (s : State). module_taken false higher (length before) mid last_mark ≡ on s)
        last_is is))
        (ap declarations_of (sym (ap (module_end 0 0) last_is) ∙ ends.ends 0 0)
        ∙ (ap (λ l. placed_each write_declaration placed_declaration 0 l
        (behind_own (before ++ last_mark ∷ []))) head.are ∙ placed_is))
        (placed_prototype head.last own head.prototype))
      where
        behind_own : List Token → List Token
        behind_own tokens =
            behind (write_own head.tree.annotations) 0
            (behind (write_each write_import head.tree.imports) 0 (drop 3 tokens))
