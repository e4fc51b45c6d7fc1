-- Pairs written one after the other: the P rows and the C rows so far, and what is still to come.
use Prim.Native.Nat.{ℕ, ◌+◌, ◌*◌, ◌≤◌, ◌<◌}
use native.Mathlib.Nat.{lt_irrefl}
use native.Mathlib.Numerals.{add-one}
use native.Mathlib.Omega.{arith}
use mathlib.Core.Path.{◌≡◌, refl, sym, ap, ap₂, ◌∙◌, subst}
use mathlib.Core.List.{List, [], ◌∷◌, ◌++◌, append_assoc, append-nil}
use lib.ListN.{length, get_or, take, drop, drop_of_length-le}
use lib.Seq.{drop-cons, get_or-take, length-take-le}
use Rattle.limits.specs.Limits.{max_values, max_clauses, row_width}
use Rattle.calculus.specs.Refusals.{pattern_line, clause_line}
use Rattle.calculus.specs.Trees.{Ty}
use Rattle.format.specs.Lines.{Row}
use Rattle.law_ranking.specs.Numbering.{count, unrank}
use Rattle.law_pairlists.specs.PairLists.{clause_row, write_pairs, settings}
use Rattle.law_pairlists.proofs.File.{value_grows}
use Rattle.list_entries.specs.Entries.{max_entries, row_of, entries_at, store_entry, Tracks, Room, Follows}
use Rattle.list_entries.proofs.Tracking.{entries_stored}
use Rattle.list_writing.specs.Writing.{left, right, ValueDone, PairRows, ClauseDone, PairsDone}
use Rattle.list_writing.proofs.Following.{follow_room}

-- ---- one pair

pub clause_done : (a b : Ty) (k m : ℕ) {s s₁ s₂ q q' : List ℕ} {to n₁ e₁ n₂ e₂ : ℕ} → ValueDone a k s s₁ to n₁ e₁ → ValueDone b m s₁ s₂ e₁ n₂ e₂
    → q' ≡ store_entry q k n₁ n₂ 0 → ClauseDone a b k m s s₂ to q q' e₂
clause_done a b k m {s} {s₁} {s₂} {q} {q'} {to} {n₁} {e₁} {n₂} {e₂} f g e =
    record { does = λ ca cb rs r t. rows rs ((f.does ca).does rs r t) ((g.does cb).does (left a k rs).rows) r }
  where
    rows : (rs : List Row) → Follows pattern_line s s₁ n₁ e₁ (left a k rs).rows (left a k rs).number
        → (Room s₁ → Tracks pattern_line s₁ e₁ (left a k rs).rows
        → Follows pattern_line s₁ s₂ n₂ e₂ (right a b k m rs).rows (right a b k m rs).number)
        → Room s → PairRows a b k m rs s₂ q q' e₂
    rows rs F G r = both (G (follow_room F r) F.tracks)
      where
        both : Follows pattern_line s₁ s₂ n₂ e₂ (right a b k m rs).rows (right a b k m rs).number
            → PairRows a b k m rs s₂ q q' e₂
        both H =
            record {
              tracks = H.tracks;
              clause = λ l small long.
                  ap (λ z. entries_at clause_line z 0 (k + 1)) e
                  ∙ entries_stored clause_line q k n₁ n₂ 0 (omega (arith, F.bound)) (omega (arith, H.bound)) (omega arith) (omega arith) (omega arith)
                  ∙ ap₂ (λ y z. entries_at clause_line q 0 k ++ (row_of clause_line y z 0 ∷ [])) (F.number (omega (arith, value_grows (unrank b m) (left a k rs).rows))) (H.number l);
            }

-- ---- all pairs

-- the P rows and the C rows so far, those of all pairs being theirs with those still to come
pub record Sofar (a b : Ty) (ts : List ℕ) (k : ℕ) (s q : List ℕ) (end : ℕ) : Type 0 where
  pub rows : List Row
  pub done : List Row
  pub tracks : Tracks pattern_line s end rows
  pub stored : length rows ≤ 1025 → entries_at clause_line q 0 k ≡ done
  pub patterns : (write_pairs (settings a b 0 ts) []).patterns ≡ (write_pairs (settings a b k (drop k ts)) rows).patterns
  pub clauses : (write_pairs (settings a b 0 ts) []).clauses ≡ done ++ (write_pairs (settings a b k (drop k ts)) rows).clauses

pub record Pairs (a b : Ty) (tos : List ℕ) (n : ℕ) (s₀ q₀ s q : List ℕ) (k end : ℕ) : Type 0 where
  pub within : k ≤ n
  pub long : length s ≡ length s₀
  pub wide : length q ≡ length q₀
  pub sofar : count a ≤ max_values → count b ≤ max_values → n ≤ length tos → Room s₀ → max_clauses * row_width ≤ length q₀ → Sofar a b (take n tos) k s q end

pub pairs_start : (a b : Ty) (tos : List ℕ) (n : ℕ) (s q : List ℕ) → Pairs a b tos n s q s q 0 0
pairs_start a b tos n s q =
    record {
      within = omega arith;
      long = refl;
      wide = refl;
      sofar = λ ca cb h r l.
          record {
            rows = [];
            done = [];
            tracks = record { few = omega arith; exact = λ m. refl; full = λ m. absurd (lt_irrefl 0 (omega arith)) };
            stored = λ m. refl;
            patterns = refl;
            clauses = refl;
          };
    }

first_left : (n k : ℕ) (tos : List ℕ) → k < n → n ≤ length tos → drop k (take n tos) ≡ get_or tos k 0 ∷ drop (k + 1) (take n tos)
first_left n k tos h l =
    drop-cons (take n tos) k 0 (subst (λ i. k < i) (sym (length-take-le n tos l)) h) ∙ ap₂ (λ x i. x ∷ drop i (take n tos)) (get_or-take n tos k 0 h) (sym (add-one k))

pub pairs_next : {a b : Ty} {tos : List ℕ} {n : ℕ} {s₀ q₀ s q s' q' : List ℕ} {k end e m x : ℕ} → Pairs a b tos n s₀ q₀ s q k end → k < n → n ≤ max_clauses
    → x ≡ get_or tos k 0 → m ≡ x → ClauseDone a b k m s s' end q q' e → length s' ≡ length s → length q' ≡ length q → Pairs a b tos n s₀ q₀ s' q' (k + 1) e
pairs_next {a} {b} {tos} {n} {s₀} {q₀} {s} {q} {s'} {q'} {k} {end} {e} {m} {x} p h few ex em c ls lq =
    record {
      within = omega arith;
      long = ls ∙ p.long;
      wide = lq ∙ p.wide;
      sofar = λ ca cb l r w. next l w (p.sofar ca cb l r w) (λ rs t. c.does ca cb rs (record { words = subst (λ i. max_entries * row_width ≤ i) (sym p.long) r.words }) t);
    }
  where
    next : n ≤ length tos → max_clauses * row_width ≤ length q₀ → Sofar a b (take n tos) k s q end → ((rs : List Row) → Tracks pattern_line s end rs → PairRows a b k m rs s' q q' e)
        → Sofar a b (take n tos) (k + 1) s' q' e
    next l w f g = onward (g f.rows f.tracks)
      where
        here : drop k (take n tos) ≡ m ∷ drop (k + 1) (take n tos)
        here = first_left n k tos h l ∙ ap (λ y. y ∷ drop (k + 1) (take n tos)) (sym ex ∙ sym em)

        one : settings a b k (drop k (take n tos)) ≡ (unrank a k, unrank b m) ∷ settings a b (k + 1) (drop (k + 1) (take n tos))
        one = ap (settings a b k) here ∙ ap (λ i. (unrank a k, unrank b m) ∷ settings a b i (drop (k + 1) (take n tos))) (sym (add-one k))

        onward : PairRows a b k m f.rows s' q q' e → Sofar a b (take n tos) (k + 1) s' q' e
        onward d =
            record {
              rows = (right a b k m f.rows).rows;
              done = f.done ++ (clause_row (left a k f.rows).number (right a b k m f.rows).number ∷ []);
              tracks = d.tracks;
              stored = λ o.
                  d.clause o (omega arith) (let z = p.wide in omega arith)
                  ∙ ap (λ z. z ++ (clause_row (left a k f.rows).number (right a b k m f.rows).number ∷ []))
                  (f.stored (omega (arith, value_grows (unrank a k) f.rows, value_grows (unrank b m) (left a k f.rows).rows)));
              patterns = f.patterns ∙ ap (λ z. (write_pairs z f.rows).patterns) one;
              clauses =
                  f.clauses ∙ ap (λ z. f.done ++ (write_pairs z f.rows).clauses) one
                  ∙ sym (append_assoc f.done (clause_row (left a k f.rows).number (right a b k m f.rows).number ∷ [])
                  (write_pairs (settings a b (k + 1) (drop (k + 1) (take n tos))) (right a b k m f.rows).rows).clauses);
            }

pub pairs_end : {a b : Ty} {tos : List ℕ} {n : ℕ} {s₀ q₀ s q : List ℕ} {k end : ℕ} → Pairs a b tos n s₀ q₀ s q k end → n ≤ k → PairsDone a b tos n s₀ s q₀ q end
pairs_end {a} {b} {tos} {n} {s₀} {q₀} {s} {q} {k} {end} p h =
    record { does = λ ca cb l r w. finish l (p.sofar ca cb l r w) }
  where
    finish : n ≤ length tos → Sofar a b (take n tos) k s q end
        → Tracks pattern_line s end (write_pairs (settings a b 0 (take n tos)) []).patterns
        × (length (write_pairs (settings a b 0 (take n tos)) []).patterns ≤ 1025 → entries_at clause_line q 0 n ≡ (write_pairs (settings a b 0 (take n tos)) []).clauses)
    finish l f =
        let same : k ≡ n = omega (arith, p.within) in
        let none_left : drop k (take n tos) ≡ [] = drop_of_length-le (take n tos) (subst (λ i. i ≤ k) (sym (length-take-le n tos l)) h) in
        let rows : (write_pairs (settings a b 0 (take n tos)) []).patterns ≡ f.rows = f.patterns ∙ ap (λ z. (write_pairs (settings a b k z) f.rows).patterns) none_left in
        let cs : (write_pairs (settings a b 0 (take n tos)) []).clauses ≡ f.done =
        f.clauses ∙ ap (λ z. f.done ++ (write_pairs (settings a b k z) f.rows).clauses) none_left ∙ append-nil f.done in (
          subst (Tracks pattern_line s end) (sym rows) f.tracks,
          λ o. ap (entries_at clause_line q 0) (sym same) ∙ f.stored (subst (λ z. length z ≤ 1025) rows o) ∙ sym cs,
        )
