-- Exchanges of neighbours reach every order of the clauses of an iso, and of all isos at once.
use Prim.Native.Nat.{ℕ}
use mathlib.Core.Path.{◌≡◌, refl, sym, ap, ◌∙◌, subst}
use mathlib.Core.Bool.{true, false, not, ◌&&◌, false≢true}
use mathlib.Core.List.{List, [], ◌∷◌, ◌++◌, map, append_assoc}
use lib.Dec.{eqb}
use Rattle.calculus.specs.Tools.{all, concat}
use Rattle.calculus.specs.Refusals.{clause_line, let_line}
use Rattle.format.specs.Lines.{letter}
use Rattle.calculus.proofs.Basic.{and_true, eqb_eq}
use Rattle.law_reordering.specs.Reordered.{is_clause, is_let, is_block, is_whole, Reordered, Permuted, Section, section_lines, Shuffled}
use Rattle.law_reordering.proofs.Alike.{perm_all}
use Rattle.law_reordering.proofs.Files.{reordered_then}

clause_not_let : (l : List ℕ) → is_clause l ≡ true → is_let l ≡ false
clause_not_let [] e = absurd (false≢true e)
clause_not_let (b ∷ bs) e = ap (λ c. eqb c (letter let_line)) (eqb_eq b (letter clause_line) e)

blocks_whole : (bs : List (List (List ℕ))) (behind : List (List ℕ)) → all is_block bs ≡ true → is_whole behind ≡ true → is_whole (concat bs ++ behind) ≡ true
blocks_whole [] behind h w = w
blocks_whole ([] ∷ bs) behind h w = absurd (false≢true h)
blocks_whole ((l ∷ ls) ∷ bs) behind h w =
    let t = and_true (is_block (l ∷ ls)) (all is_block bs) h in ap not (clause_not_let l (and_true (is_clause l) (all is_let ls) t.0).0)

-- The clauses of an iso in any other order, the lines before and behind them as they are.
pub any_order : {bs cs : List (List (List ℕ))} → Permuted bs cs → all is_block bs ≡ true → (before behind : List (List ℕ)) → is_whole behind ≡ true
    → Reordered (before ++ (concat bs ++ behind)) (before ++ (concat cs ++ behind))
any_order Permuted.empty h before behind w = Reordered.same refl
any_order (Permuted.keep {x} {y} {xs} {ys} e p) h before behind w =
    let t = and_true (is_block x) (all is_block xs) h in
    let out : (b : List (List ℕ)) (zs : List (List (List ℕ))) → (before ++ b) ++ (concat zs ++ behind) ≡ before ++ ((b ++ concat zs) ++ behind) =
    λ b zs. append_assoc before b (concat zs ++ behind) ∙ ap (λ z. before ++ z) (sym (append_assoc b (concat zs) behind)) in
    subst (λ z. Reordered z (before ++ ((y ++ concat ys) ++ behind))) (out x xs)
    (subst (Reordered ((before ++ x) ++ (concat xs ++ behind))) (out x ys ∙ ap (λ b. before ++ ((b ++ concat ys) ++ behind)) e)
    (any_order p t.1 (before ++ x) behind w))
any_order (Permuted.swap {x} {y} {v} {w = u} {xs} {ys} p q r) h before behind w =
    let t = and_true (is_block x) (is_block y && all is_block xs) h in
    let s = and_true (is_block y) (all is_block xs) t.1 in
    let out : (a b : List (List ℕ)) → (a ++ (b ++ concat xs)) ++ behind ≡ a ++ (b ++ (concat xs ++ behind)) =
    λ a b. append_assoc a (b ++ concat xs) behind ∙ ap (λ z. a ++ z) (append_assoc b (concat xs) behind) in
    Reordered.exchange
    (record {
      before = before;
      one = x;
      two = y;
      behind = concat xs ++ behind;
      one_block = t.0;
      two_block = s.0;
      whole = blocks_whole xs behind s.1 w;
      here = ap (λ z. before ++ z) (out x y);
      there = ap (λ z. before ++ z) (out y x);
    })
    (Reordered.same (λ i. before ++ ((q i ++ (p i ++ concat (r i))) ++ behind)))
any_order (Permuted.then p q) h before behind w =
    reordered_then (any_order p h before behind w) (any_order q (sym (perm_all is_block p) ∙ h) before behind w)

sections_whole : {ss ts : List Section} → Shuffled ss ts → is_whole (concat (map section_lines ss)) ≡ true
sections_whole Shuffled.none = refl
sections_whole (Shuffled.more i h p q) = ap not i

-- The clauses of every iso in any other order, all at once: "Two files that differ only in the order of clauses within isos".
pub every_order : {ss ts : List Section} → Shuffled ss ts → (before : List (List ℕ))
    → Reordered (before ++ concat (map section_lines ss)) (before ++ concat (map section_lines ts))
every_order Shuffled.none before = Reordered.same refl
every_order (Shuffled.more {i} {bs} {cs} {ss} {ts} n h p q) before =
    let xs : List (List ℕ) = concat (map section_lines ss) in
    let ys : List (List ℕ) = concat (map section_lines ts) in
    let one = any_order p h (before ++ (i ∷ [])) xs (sections_whole q) in
    let rest = every_order q (before ++ (i ∷ concat cs)) in
    let out : (ds : List (List (List ℕ))) (zs : List (List ℕ)) → (before ++ (i ∷ [])) ++ (concat ds ++ zs) ≡ before ++ ((i ∷ concat ds) ++ zs) =
    λ ds zs. append_assoc before (i ∷ []) (concat ds ++ zs) in
    let far : (zs : List (List ℕ)) → (before ++ (i ∷ concat cs)) ++ zs ≡ before ++ ((i ∷ concat cs) ++ zs) = append_assoc before (i ∷ concat cs) in
    reordered_then (subst (λ z. Reordered z (before ++ ((i ∷ concat cs) ++ xs))) (out bs xs) (subst (Reordered ((before ++ (i ∷ [])) ++ (concat bs ++ xs))) (out cs xs) one))
    (subst (λ z. Reordered z (before ++ ((i ∷ concat cs) ++ ys))) (far xs) (subst (Reordered ((before ++ (i ∷ concat cs)) ++ xs)) (far ys) rest))
