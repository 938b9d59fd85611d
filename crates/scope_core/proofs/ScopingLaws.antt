-- Laws of the pieces of all modules, and of their tables.
use Rattle.std.proofs.Common.{◌≡◌, ◌++◌, ◌∷◌, [], ◌<◌, ◌∙◌, ◌+◌, ℕ, suc, List, map, drop, get_or, length, sym, ap}
use Rattle.std.proofs.Common.{subst, refl, arith, drop-cons, ◌≤◌, zero, flat_map, replicate, Bool, true, false, not}
use Rattle.std.proofs.Common.{◌&&◌, ◌==◌, slice_index_or}
use Rattle.std.specs.List.{list_any, list_all}
use Rattle.std.proofs.lemmas.Bool.{and_parts, eq-eqb}
use Rattle.std.proofs.lemmas.List.{append-nil, append_assoc, length-replicate, length-map}
use Rattle.mdl_syntax.specs.declared.modules.Module.{Module}
use Rattle.mdl_syntax.specs.Modules.{module_of, EnumValue, Declaration, material, variant, function, structure}
use Rattle.mdl_syntax.specs.Modules.{enumeration, annotation}
use Rattle.module_set.specs.declared.module_name.ModuleName.{ModuleName}
use Rattle.scope_tables.specs.declared.declared.Piece.{Piece}
use Rattle.scope_tables.specs.Entities.{Declared, values_from, declared, declared_from, entities_from}
use Rattle.scope_tables.specs.PreludeEntities.{prelude}
use Rattle.scope_tables.specs.Brought.{Bringing, brought_by}
use Rattle.scope_tables.specs.declared.declared.Written.{Written}
use Rattle.scope_tables.specs.declared.tables.Table.{Table}
use Rattle.scope_tables.specs.declared.reach.Reach.{Reach}
use Rattle.scope_tables.specs.Visible.{World, brought_at}
use Rattle.scope_core.specs.inside.Holding.{IsTable, AreTables}
use Rattle.scope_tables.specs.inside.Reaching.{AreReaches}
use Rattle.scope_tables.specs.inside.Pieces.{IsPiece, IsWritten}
use Rattle.scope_core.specs.inside.Scoping.{ArePieces, PiecesLeft, BroughtLeft, brought_all, AreWritten, AreInside}
use Rattle.scope_core.specs.inside.Scoping.{AreMade, MadeSome, Makes}
use Rattle.scope_tables.proofs.MemberLaws.{both-all}

-- one more piece
pub pieces_push : (all : List (List Declared)) (pieces : List Piece) (one : List Declared) (piece : Piece)
    → ArePieces all pieces → IsPiece one piece → ArePieces (all ++ one ∷ []) (pieces ++ piece ∷ [])
pieces_push [] [] one piece are is = (is, tt)
pieces_push [] (other ∷ pieces) one piece are is = absurd are
pieces_push (first ∷ all) [] one piece are is = absurd are
pieces_push (first ∷ all) (other ∷ pieces) one piece are is = (are.0, pieces_push all pieces one piece are.1 is)

-- the pieces of one more module
pub pieces_more : (modules : List Module) (now after : List Piece) (i : ℕ) (one : Module) (piece : Piece)
    → PiecesLeft modules now i → i < length modules → one ≡ get_or modules i one
    → IsPiece (declared_from i 0 (module_of one).declarations) piece → after ≡ now ++ piece ∷ []
    → PiecesLeft modules after (i + 1)
pieces_more modules now after i one piece left within is more come = record {
  done = left.done ++ entities ∷ [];
  are = subst (ArePieces (left.done ++ entities ∷ [])) (sym come)
      (pieces_push left.done now entities piece left.are more);
  whole = append_assoc left.done (entities ∷ []) (rest (i + 1) (i + 1)) ∙ ap (λ l. left.done ++ l) step ∙ left.whole;
}
  where
    entities : List Declared
    entities = declared_from i 0 (module_of one).declarations

    rest : ℕ → ℕ → List (List Declared)
    rest q j = entities_from q (map (λ (one : Module). (module_of one).declarations) (drop j modules))

    step : entities ∷ rest (i + 1) (i + 1) ≡ rest i i
    step =
        let f : i + 1 ≡ suc i = omega arith in
        (λ k. entities ∷ rest (f k) (f k))
        ∙ sym (ap (λ l. entities_from i (map (λ (one : Module). (module_of one).declarations) l))
        (drop-cons modules i one within ∙ ap (λ v. v ∷ drop (suc i) modules) (sym is)))

-- past the last module
pub drop-end : {A : Type 0} (i : ℕ) (xs : List A) → length xs ≤ i → drop i xs ≡ []
drop-end zero [] long = refl
drop-end (suc i) [] long = refl
drop-end zero (x ∷ xs) long = absurd (omega (arith, long))
drop-end (suc i) (x ∷ xs) long = drop-end i xs (omega (arith, long))

-- the piece of the prelude behind those of all modules
pub pieces_end : (modules : List Module) (now after : List Piece) (i : ℕ) (end : List Declared) (piece : Piece)
    → PiecesLeft modules now i → length modules ≤ i → IsPiece end piece → after ≡ now ++ piece ∷ []
    → ArePieces
    (entities_from 0 (map (λ (one : Module). (module_of one).declarations) modules) ++ end ∷ []) after
pieces_end modules now after i end piece left long is come =
    let all : left.done ≡ entities_from 0 (map (λ (one : Module). (module_of one).declarations) modules) =
    sym (append-nil left.done)
    ∙ sym (ap (λ l. left.done
    ++ entities_from i (map (λ (one : Module). (module_of one).declarations) l)) (drop-end i modules long))
    ∙ left.whole in
    subst (ArePieces (entities_from 0 (map (λ (one : Module). (module_of one).declarations) modules) ++ end ∷ []))
    (sym come) (pieces_push _ now end piece (subst (λ d. ArePieces d now) all left.are) is)

-- what one more module brings
pub brought_more : (known names : List ModuleName) (modules : List Module) (done after : List (List Bringing)) (i : ℕ)
    (name : ModuleName) (one : Module) → BroughtLeft known names modules done i → i < length names
    → name ≡ get_or names i name → i < length modules → one ≡ get_or modules i one
    → after ≡ done ++ flat_map (brought_by known name) one.imports ∷ []
    → BroughtLeft known names modules after (i + 1)
brought_more known names modules done after i name one left named name_is within is come = record {
  whole = ap (λ l. l ++ rest (i + 1)) come ∙ append_assoc done (brings ∷ []) (rest (i + 1)) ∙ ap (λ l. done ++ l) step
      ∙ left.whole;
}
  where
    brings : List Bringing
    brings = flat_map (brought_by known name) one.imports

    rest : ℕ → List (List Bringing)
    rest j = brought_all known (drop j names) (drop j modules)

    step : brings ∷ rest (i + 1) ≡ rest i
    step =
        let f : i + 1 ≡ suc i = omega arith in
        let a = drop-cons names i name named ∙ ap (λ v. v ∷ drop (suc i) names) (sym name_is) in
        let b = drop-cons modules i one within ∙ ap (λ v. v ∷ drop (suc i) modules) (sym is) in
        (λ k. brings ∷ rest (f k)) ∙ sym (λ k. brought_all known (a k) (b k))

brought_none : (known : List ModuleName) (modules : List Module) → brought_all known [] modules ≡ []
brought_none known [] = refl
brought_none known (one ∷ modules) = refl

-- a module without a name brings nothing
pub brought_past : (known names : List ModuleName) (modules : List Module) (done after : List (List Bringing)) (i : ℕ)
    → BroughtLeft known names modules done i → length names ≤ i → after ≡ done
    → BroughtLeft known names modules after (i + 1)
brought_past known names modules done after i left past same = record {
  whole = ap (λ l. l ++ brought_all known (drop (i + 1) names) (drop (i + 1) modules)) same
      ∙ ap (λ l. done ++ l) (nothing (i + 1) (omega (arith, past)) ∙ sym (nothing i past)) ∙ left.whole;
}
  where
    nothing : (k : ℕ) → length names ≤ k → brought_all known (drop k names) (drop k modules) ≡ []
    nothing k less =
        ap (λ l. brought_all known l (drop k modules)) (drop-end k names less) ∙ brought_none known (drop k modules)

-- nothing is left
pub brought_end : (known names : List ModuleName) (modules : List Module) (done : List (List Bringing)) (i : ℕ)
    → BroughtLeft known names modules done i → length modules ≤ i → done ≡ brought_all known names modules
brought_end known names modules done i left long =
    sym (append-nil done)
    ∙ sym (ap (λ l. done ++ brought_all known (drop i names) l) (drop-end i modules long)) ∙ left.whole

-- one more table
tables_push : (world : World) (m : ℕ) (tables : List Table) (table : Table) (pieces : List (List Declared))
    (piece : List Declared) → AreTables world m tables pieces → IsTable world (m + length tables) piece table
    → AreTables world m (tables ++ table ∷ []) (pieces ++ piece ∷ [])
tables_push world m [] table [] piece are is =
    let e : m + 0 ≡ m = omega arith in
    (subst (λ k. IsTable world k piece table) e is, tt)
tables_push world m [] table (other ∷ pieces) piece are is = absurd are
tables_push world m (other ∷ tables) table [] piece are is = absurd are
tables_push world m (first ∷ tables) table (other ∷ pieces) piece are is =
    let e : m + suc (length tables) ≡ suc m + length tables = omega arith in
    (are.0, tables_push world (suc m) tables table pieces piece are.1 (subst (λ k. IsTable world k piece table) e is))

-- what is written of one more piece
written_push : (all : List (List Declared)) (written : List Written) (one : List Declared) (more : Written)
    → AreWritten all written → IsWritten one more → AreWritten (all ++ one ∷ []) (written ++ more ∷ [])
written_push [] [] one more are is = (is, tt)
written_push [] (other ∷ written) one more are is = absurd are
written_push (first ∷ all) [] one more are is = absurd are
written_push (first ∷ all) (other ∷ written) one more are is = (are.0, written_push all written one more are.1 is)

abbrev is_open : Table → Bool
is_open table = not (list_any (λ hidden. hidden) table.hidden.items)

open-push : (tables : List Table) (table : Table) → list_all is_open tables ≡ true → is_open table ≡ true
    → list_all is_open (tables ++ table ∷ []) ≡ true
open-push [] table before is = ap (λ b. b && true) is
open-push (first ∷ tables) table before is =
    let apart = and_parts (is_open first) (list_all is_open tables) before in
    ap (λ b. b && list_all is_open (tables ++ table ∷ [])) apart.0 ∙ open-push tables table apart.1 is

open-all : (n : ℕ) → not (list_any (λ hidden. hidden) (replicate n false)) ≡ true
open-all zero = refl
open-all (suc n) = open-all n

-- a table of one more piece, with what it reaches
pub made_next : (world : World) (all : List (List Declared)) (piece : Piece) (rest : List Piece) (table : Table)
    (tables : List Table) (written : List Written) (reaches : List Reach) (done left : List (List Declared))
    → AreMade world done tables written → ArePieces left (piece ∷ rest) → length tables ≡ length done
    → AreInside (length done) left → done ++ left ≡ all
    → AreReaches (length tables) (brought_at world (length tables)) reaches → table.own ≡ piece.entities.items
    → table.reaches.items ≡ reaches → table.hidden.items ≡ replicate (length piece.entities.items) false
    → MadeSome world all rest (tables ++ table ∷ []) (written ++ piece.written ∷ [])
made_next world all piece rest table tables written reaches done
    [] made are count inside whole reach own reach_is flags = absurd are
made_next world all piece rest table tables written reaches done
    (one ∷ left) made are count inside whole reach own reach_is flags = record {
      done = done ++ one ∷ [];
      left = left;
      made = record {
        tables_are = tables_push world 0 tables table done one made.tables_are
            (subst (λ k. IsTable world k one table) start is);
        none_hidden = open-push tables table made.none_hidden
            (ap (λ hidden. not (list_any (λ hidden. hidden) hidden)) flags ∙ open-all (length piece.entities.items));
        written_are = written_push done written one piece.written made.written_are are.0.written;
      };
      are = are.1;
      count = length-push tables table ∙ ap suc count ∙ sym (length-push done one);
      inside = subst (λ m. AreInside m left) (sym (length-push done one)) inside.1;
      whole = append_assoc done (one ∷ []) left ∙ whole;
    }
  where
    length-push : {A : Type 0} (xs : List A) (x : A) → length (xs ++ x ∷ []) ≡ suc (length xs)
    length-push [] x = refl
    length-push (y ∷ xs) x = ap suc (length-push xs x)

    start : length tables ≡ 0 + length tables
    start = omega arith

    is : IsTable world (length tables) one table
    is = record {
      own = own ∙ are.0.entities;
      hidden = ap length flags ∙ length-replicate (length piece.entities.items) false ∙ ap length are.0.entities
          ∙ length-map one (λ (one : Declared). one.entity);
      inside = ap (λ m. list_all (λ (one : Declared). one.entity.id.module == m) one) count ∙ inside.0;
      reaches = subst (AreReaches (length tables) (brought_at world (length tables))) (sym reach_is) reach;
    }

pub makes_start : (brings : List (List Bringing)) (pieces : List Piece) → Makes brings pieces pieces [] []
makes_start brings pieces = record {
  some = λ world all brought are inside. record {
    done = [];
    left = all;
    made = record { tables_are = tt; none_hidden = refl; written_are = tt };
    are = are;
    count = refl;
    inside = inside;
    whole = refl;
  };
}

pub makes_more : (brings : List (List Bringing)) (pieces rest : List Piece) (piece : Piece) (table : Table)
    (tables after : List Table) (written later : List Written) (reaches : List Reach)
    → Makes brings pieces (piece ∷ rest) tables written
    → AreReaches (length tables) (slice_index_or brings (length tables) []) reaches → table.own ≡ piece.entities.items
    → table.reaches.items ≡ reaches → table.hidden.items ≡ replicate (length piece.entities.items) false
    → after ≡ tables ++ table ∷ [] → later ≡ written ++ piece.written ∷ [] → Makes brings pieces rest after later
makes_more brings pieces rest piece table tables after written later reaches
    makes reach own reach_is flags come told = record {
      some = λ world all brought are inside.
          let got = makes.some world all brought are inside in
          subst (λ l. MadeSome world all rest l later) (sym come)
          (subst (λ l. MadeSome world all rest (tables ++ table ∷ []) l) (sym told)
          (made_next world all piece rest table tables written reaches got.done got.left got.made got.are got.count
          got.inside got.whole
          (subst (λ b. AreReaches (length tables) (slice_index_or b (length tables) []) reaches) (sym brought) reach)
          own reach_is flags));
    }

made_all : (world : World) (all done left : List (List Declared)) (tables : List Table) (written : List Written)
    → AreMade world done tables written → ArePieces left [] → done ++ left ≡ all → AreMade world all tables written
made_all world all done [] tables written made are whole =
    subst (λ d. AreMade world d tables written) (sym (append-nil done) ∙ whole) made
made_all world all done (one ∷ left) tables written made are whole = absurd are

pub makes_end : (brings : List (List Bringing)) (pieces : List Piece) (tables : List Table) (written : List Written)
    (world : World) (all : List (List Declared)) → Makes brings pieces [] tables written → world.brings ≡ brings
    → ArePieces all pieces → AreInside 0 all → AreMade world all tables written
makes_end brings pieces tables written world all makes brought are inside =
    let got = makes.some world all brought are inside in
    made_all world all got.done got.left tables written got.made got.are got.whole

-- each entity of a piece is of its module
abbrev is_of : ℕ → Declared → Bool
is_of m one = one.entity.id.module == m

one-of : (m : ℕ) → ((m == m) && true) ≡ true
one-of m = ap (λ b. b && true) (eq-eqb m m refl)

values-inside : (m d p : ℕ) (exported : Bool) (group : List ℕ) (values : List EnumValue)
    → list_all (is_of m) (values_from m d p exported group values) ≡ true
values-inside m d p exported group [] = refl
values-inside m d p exported group (value ∷ values) =
    ap (λ b. b && list_all (is_of m) (values_from m d (suc p) exported group values)) (eq-eqb m m refl)
    ∙ values-inside m d (suc p) exported group values

declared-inside : (m d : ℕ) (one : Declaration) → list_all (is_of m) (declared m d one) ≡ true
declared-inside m d (material exported name parameters a b c) = one-of m
declared-inside m d (variant exported ty name a base b c) = one-of m
declared-inside m d (function exported ty name parameters a b body c) = one-of m
declared-inside m d (structure exported name a fields b) = one-of m
declared-inside m d (enumeration exported name a values b) =
    ap (λ b. b && list_all (is_of m) (values_from m d 1 exported name.text values)) (eq-eqb m m refl)
    ∙ values-inside m d 1 exported name.text values
declared-inside m d (annotation exported name parameters a b) = one-of m

pub declared_from-inside : (m d : ℕ) (all : List Declaration) → list_all (is_of m) (declared_from m d all) ≡ true
declared_from-inside m d [] = refl
declared_from-inside m d (one ∷ others) =
    both-all (is_of m) (declared m d one) (declared_from m (suc d) others) (declared-inside m d one)
    (declared_from-inside m (suc d) others)

prelude-inside : (m : ℕ) → list_all (is_of m) (prelude m) ≡ true
prelude-inside m =
    let is : (m == m) ≡ true = eq-eqb m m refl in
    λ k. is k && (is k && (is k && (is k && (is k && (is k && (is k && (is k && (is k && true))))))))

entities-inside-from : (m : ℕ) (modules : List (List Declaration)) (n : ℕ) → n ≡ m + length modules
    → AreInside m (entities_from m modules ++ prelude n ∷ [])
entities-inside-from m [] n is =
    let e : m ≡ n = omega (arith, is) in
    (subst (λ j. list_all (is_of j) (prelude n) ≡ true) (sym e) (prelude-inside n), tt)
entities-inside-from m (one ∷ modules) n is =
    let e : n ≡ suc m + length modules = omega (arith, is) in
    (declared_from-inside m 0 one, entities-inside-from (suc m) modules n e)

-- the entities of all modules, and those of the prelude behind them
pub entities-inside : (modules : List (List Declaration)) (n : ℕ) → n ≡ length modules
    → AreInside 0 (entities_from 0 modules ++ prelude n ∷ [])
entities-inside modules n is =
    let e : n ≡ 0 + length modules = omega (arith, is) in
    entities-inside-from 0 modules n e
