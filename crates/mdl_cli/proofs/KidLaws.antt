-- Kids behind commas, one after another.
use Rattle.std.proofs.Common.{◌≡◌, ℕ, ◌+◌, ◌<◌, ◌≤◌, List, [], ◌∷◌, ◌++◌, Option, Some, None, suc, map}
use Rattle.std.proofs.Common.{length, get_or, drop, drop-cons, add-one, codes, refl, sym, ap, ◌∙◌}
use Rattle.std.proofs.lemmas.List.{append_assoc, append-nil, drop_all, map-append}
use Rattle.type_rules.specs.declared.ty.Arg.{Arg}
use Rattle.type_rules.specs.Terms.{Term}
use Rattle.mdl_lexer.specs.declared.token.Kind.{Kind}
use Rattle.mdl_cli.specs.Words.{mark_word}
use Rattle.mdl_cli.specs.inside.Reading.{Reader, behind, others_in, ◌>>=◌}
use Rattle.mdl_cli.specs.declared.tree.Tree.{Tree}
use Rattle.mdl_cli.specs.declared.terms.ReadError.{ReadError}
use Rattle.mdl_cli.specs.declared.terms.ReadError.TheVariants.{NotFirst, OutOfMemory}
use Rattle.mdl_cli.specs.inside.Trees.{term_of}
use Rattle.mdl_cli.specs.inside.Gives.{behind_terms, next_in, Fails}

-- one list of terms before another
behind_terms-append : (xs ys : List Term) (found : Option (List Term × List Kind)) →
    behind_terms xs (behind_terms ys found) ≡ behind_terms (xs ++ ys) found
behind_terms-append xs ys None = refl
behind_terms-append xs ys (Some found) = ap (λ ts. Some (ts, found.1)) (sym (append_assoc xs ys found.0))

-- the others behind a first kid
first_behind : (kid : Term) (found : Option (List Term × List Kind)) →
    (found >>= (λ kids. Some (kid ∷ kids.0, kids.1))) ≡ behind_terms (kid ∷ []) found
first_behind kid None = refl
first_behind kid (Some found) = refl

-- a comma and a kid are read as one
joined : (comma : Option (List Kind)) (read : List Kind → Option (Term × List Kind))
    (others : List Kind → Option (List Term × List Kind)) →
    (comma >>= λ words. read words >>= λ kid. others kid.1 >>= λ kids. Some (kid.0 ∷ kids.0, kids.1))
    ≡ ((comma >>= read) >>= λ kid. behind_terms (kid.0 ∷ []) (others kid.1))
joined None read others = refl
joined (Some words) read others = by (read words)
  where
    by : (kid : Option (Term × List Kind)) →
        (kid >>= λ kid. others kid.1 >>= λ kids. Some (kid.0 ∷ kids.0, kids.1))
        ≡ (kid >>= λ kid. behind_terms (kid.0 ∷ []) (others kid.1))
    by None = refl
    by (Some kid) = first_behind kid.0 (others kid.1)

-- the kids that are left begin with that of the argument at hand
left_begin : (read : Reader) (args : List Arg) (i : ℕ) (arg : Arg) (words : List Kind) → i < length args →
    arg ≡ get_or args i arg → others_in read (drop i args) words
    ≡ (next_in read arg words >>= λ kid. behind_terms (kid.0 ∷ []) (others_in read (drop (i + 1) args) kid.1))
unfolding others_in
left_begin read args i arg words within is =
    rw (drop-cons args i arg within, ← is, add-one i)
    (joined (behind (mark_word (codes ",")) words) (read arg.ty) (others_in read (drop (suc i) args)))

-- one more kid was read
pub others_more : (read : Reader) (args : List Arg) (i : ℕ) (arg : Arg) (words rest : List Kind)
    (kids more : List Tree) (kid : Tree) (all : Option (List Term × List Kind)) → i < length args →
    arg ≡ get_or args i arg → next_in read arg words ≡ Some (term_of kid, rest) →
    more ≡ kids ++ kid ∷ [] → behind_terms (map term_of kids) (others_in read (drop i args) words)
    ≡ all → behind_terms (map term_of more) (others_in read (drop (i + 1) args) rest) ≡ all
others_more read args i arg words rest kids more kid all within is next pushed before =
    rw (pushed, map-append term_of kids (kid ∷ []))
    (sym (behind_terms-append (map term_of kids) (term_of kid ∷ []) _)
    ∙ (rw (left_begin read args i arg words within is, next) at before))

-- no kid was read, so all read nothing
pub others_stop : (read : Reader) (args : List Arg) (i : ℕ) (arg : Arg) (words : List Kind)
    (front : List Term) (all : Option (List Term × List Kind)) (error : ReadError) → i < length args →
    arg ≡ get_or args i arg → behind_terms front (others_in read (drop i args) words) ≡ all →
    Fails error (next_in read arg words) → Fails error all
others_stop read args i arg words front all OutOfMemory within is before next = tt
others_stop read args i arg words front all NotFirst within is before next =
    sym (rw (left_begin read args i arg words within is, next) at before)

-- all kids were read
pub others_end : (read : Reader) (args : List Arg) (i : ℕ) (words : List Kind) (kids : List Tree)
    (all : Option (List Term × List Kind)) → length args ≤ i →
    behind_terms (map term_of kids) (others_in read (drop i args) words) ≡ all →
    all ≡ Some (map term_of kids, words)
unfolding others_in
others_end read args i words kids all whole before =
    sym (rw (drop_all i args whole, append-nil (map term_of kids)) at before)
