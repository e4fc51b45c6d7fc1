-- The rows of types and of closed values, written parts before wholes: an area follows the definition's rows.
use Prim.Native.Nat.{ℕ, ◌*◌, ◌-◌, ◌/◌, ◌%◌, ◌≤◌, ◌<◌}
use native.Mathlib.Nat.{lt_irrefl}
use native.Mathlib.Omega.{arith}
use mathlib.Core.Path.{◌≡◌, refl, sym, ap, ap₂, ◌∙◌, subst}
use mathlib.Core.Logic.{◌⊎◌, inl, inr}
use mathlib.Core.Bool.{true, false, cond}
use mathlib.Core.List.{List}
use lib.Dec.{leb}
use lib.ListN.{length}
use Rattle.limits.specs.Limits.{max_values, row_width}
use Rattle.calculus.specs.Refusals.{Kind, type_line, pattern_line}
use Rattle.format.specs.Lines.{Row}
use Rattle.calculus.specs.Trees.{Ty, tunit, tlist, tsum, tprod, Tag, left, right, Val, vleaf, unit_leaf, vinj, vnode, pair_node}
use Rattle.law_ranking.specs.Numbering.{count, unrank}
use Rattle.law_pairlists.specs.PairLists.{find, enter, Entry, entry, type_row, write_type, write_value}
use Rattle.calculus.proofs.Basic.{bool_cases, leb_le, leb_false, lt_ltb, not_ltb}
use Rattle.law_ranking.proofs.Numbering.{count_left, count_right, count_first, count_second}
use Rattle.law_pairlists.proofs.File.{type_grows, value_grows}
use Rattle.law_pairlists.proofs.Rows.{enter_grows}
use Rattle.number_values.specs.Numbers.{Counts}
use Rattle.number_values.proofs.Counting.{counted}
use Rattle.list_entries.specs.Entries.{max_entries, row_of, Tracks, Room, Follows, Entering}
use Rattle.list_writing.specs.Writing.{TypeDone, RowsOf, ValueDone}
use Rattle.list_entries.proofs.Tracking.{row_eq}

-- ---- a type written

pub follow_room : {k : Kind} {s s' : List ℕ} {n e m : ℕ} {qs : List Row} → Follows k s s' n e qs m → Room s → Room s'
follow_room f r = record { words = subst (λ w. max_entries * row_width ≤ w) (sym f.long) r.words }

pub unit_done : {a : Ty} {s s' : List ℕ} {to n e : ℕ} → a ≡ tunit → ((k : Kind) (rs : List Row) → Entering k s s' to 0 0 0 n e rs) → TypeDone a s s' to n e
unit_done {s = s} {s' = s'} {to = to} {n = n} {e = e} p h =
    subst (λ b. TypeDone b s s' to n e) (sym p) (record { does = λ rs r t. (h type_line rs).does (omega arith) (omega arith) (omega arith) r t })

-- a sum or a product: x is its kind
node_does : (a b c : Ty) {s s₁ s₂ s₃ : List ℕ} {to x n₁ e₁ n₂ e₂ n₃ e₃ : ℕ} → x ≤ 2
    → ((rs : List Row) → write_type c rs ≡ (let f : Entry = write_type a rs in let g : Entry = write_type b f.rows in entry (type_row x f.number g.number) g.rows))
    → TypeDone a s s₁ to n₁ e₁ → TypeDone b s₁ s₂ e₁ n₂ e₂ → ((k : Kind) (rs : List Row) → Entering k s₂ s₃ e₂ x n₁ n₂ n₃ e₃ rs)
    → (rs : List Row) → Room s → Tracks type_line s to rs → Follows type_line s s₃ n₃ e₃ (write_type c rs).rows (write_type c rs).number
node_does a b c {s} {s₁} {s₂} {s₃} {to} {x} {n₁} {e₁} {n₂} {e₂} {n₃} {e₃} l u f g h rs r t = result
  where
    qs : List Row
    qs = (write_type a rs).rows

    F : Follows type_line s s₁ n₁ e₁ qs (write_type a rs).number
    F = f.does rs r t

    r₁ : Room s₁
    r₁ = follow_room F r

    ws : List Row
    ws = (write_type b qs).rows

    G : Follows type_line s₁ s₂ n₂ e₂ ws (write_type b qs).number
    G = g.does qs r₁ F.tracks

    r₂ : Room s₂
    r₂ = follow_room G r₁

    H : Follows type_line s₂ s₃ n₃ e₃ (enter (row_of type_line x n₁ n₂) ws) (find (row_of type_line x n₁ n₂) ws)
    H = (h type_line ws).does (omega arith) (omega (arith, F.bound)) (omega (arith, G.bound)) r₂ G.tracks

    result : Follows type_line s s₃ n₃ e₃ (write_type c rs).rows (write_type c rs).number
    result = subst (λ (w : Entry). Follows type_line s s₃ n₃ e₃ w.rows w.number) (sym (u rs)) (go (bool_cases (leb (length ws) 1025)))
      where
        m₁ : ℕ
        m₁ = (write_type a rs).number

        m₂ : ℕ
        m₂ = (write_type b qs).number

        long : length s₃ ≡ length s
        long = H.long ∙ G.long ∙ F.long

        go : (leb (length ws) 1025 ≡ true) ⊎ (leb (length ws) 1025 ≡ false) → Follows type_line s s₃ n₃ e₃ (enter (type_row x m₁ m₂) ws) (find (type_row x m₁ m₂) ws)
        go (inl c) =
            let k = leb_le (length ws) 1025 c in
            let p = F.number (omega (arith, type_grows b qs)) in
            let q = G.number k in
            subst (λ w. Follows type_line s s₃ n₃ e₃ (enter w ws) (find w ws)) (row_eq type_line refl p q)
            (record { tracks = H.tracks; number = H.number; bound = H.bound; long = long })
        go (inr c) =
            let k = leb_false (length ws) 1025 c in
            let v = H.tracks.full (omega (arith, enter_grows (row_of type_line x n₁ n₂) ws)) in
            let g = enter_grows (type_row x m₁ m₂) ws in
            record {
              tracks = record { few = H.tracks.few; exact = λ o. absurd (lt_irrefl 1025 (omega arith)); full = λ o. v };
              number = λ o. absurd (lt_irrefl 1025 (omega arith));
              bound = H.bound;
              long = long;
            }

pub node_done : (a b c : Ty) {s s₁ s₂ s₃ : List ℕ} {to x n₁ e₁ n₂ e₂ n₃ e₃ : ℕ} → x ≤ 2
    → ((rs : List Row) → write_type c rs ≡ (let f : Entry = write_type a rs in let g : Entry = write_type b f.rows in entry (type_row x f.number g.number) g.rows))
    → TypeDone a s s₁ to n₁ e₁ → TypeDone b s₁ s₂ e₁ n₂ e₂ → ((k : Kind) (rs : List Row) → Entering k s₂ s₃ e₂ x n₁ n₂ n₃ e₃ rs) → TypeDone c s s₃ to n₃ e₃
node_done a b c {s} {s₁} {s₂} {s₃} {to} {x} {n₁} {e₁} {n₂} {e₂} {n₃} {e₃} l u f g h = record { does = node_does a b c l u f g h }

-- a sum and a product
module _ (a b : Ty) {c : Ty} {s s₁ s₂ s₃ : List ℕ} {to n₁ e₁ n₂ e₂ n₃ e₃ : ℕ} (f : TypeDone a s s₁ to n₁ e₁) (g : TypeDone b s₁ s₂ e₁ n₂ e₂) where
  pub sum_done : c ≡ tsum a b → ((k : Kind) (rs : List Row) → Entering k s₂ s₃ e₂ 1 n₁ n₂ n₃ e₃ rs) → TypeDone c s s₃ to n₃ e₃
  sum_done p h = subst (λ d. TypeDone d s s₃ to n₃ e₃) (sym p) (node_done a b (tsum a b) (omega arith) (λ rs. refl) f g h)

  pub product_done : c ≡ tprod a b → ((k : Kind) (rs : List Row) → Entering k s₂ s₃ e₂ 2 n₁ n₂ n₃ e₃ rs) → TypeDone c s s₃ to n₃ e₃
  product_done p h = subst (λ d. TypeDone d s s₃ to n₃ e₃) (sym p) (node_done a b (tprod a b) (omega arith) (λ rs. refl) f g h)

-- ---- a value written

pub unit_value : {s s' : List ℕ} {to n e : ℕ} → ((k : Kind) (rs : List Row) → Entering k s s' to 0 0 0 n e rs) → RowsOf (vleaf unit_leaf) s s' to n e
unit_value h = record { does = λ rs r t. (h pattern_line rs).does (omega arith) (omega arith) (omega arith) r t }

-- rows that follow a row whose numbers are right where there is room
follow_row : {k : Kind} {s s₂ s₃ : List ℕ} (x : ℕ) {y z y' z' n e : ℕ} (ws : List Row) → (length ws ≤ 1025 → y ≡ y') → (length ws ≤ 1025 → z ≡ z') → length s₂ ≡ length s
    → Follows k s₂ s₃ n e (enter (row_of k x y z) ws) (find (row_of k x y z) ws) → Follows k s s₃ n e (enter (row_of k x y' z') ws) (find (row_of k x y' z') ws)
follow_row {k} {s} {s₂} {s₃} x {y} {z} {y'} {z'} {n} {e} ws p q l h = go (bool_cases (leb (length ws) 1025))
  where
    go : (leb (length ws) 1025 ≡ true) ⊎ (leb (length ws) 1025 ≡ false) → Follows k s s₃ n e (enter (row_of k x y' z') ws) (find (row_of k x y' z') ws)
    go (inl c) =
        let b = leb_le (length ws) 1025 c in
        subst (λ w. Follows k s s₃ n e (enter w ws) (find w ws)) (row_eq k refl (p b) (q b))
        (record { tracks = h.tracks; number = h.number; bound = h.bound; long = h.long ∙ l })
    go (inr c) =
        let b = leb_false (length ws) 1025 c in
        let v = h.tracks.full (omega (arith, enter_grows (row_of k x y z) ws)) in
        let g = enter_grows (row_of k x y' z') ws in
        record {
          tracks = record { few = h.tracks.few; exact = λ o. absurd (lt_irrefl 1025 (omega arith)); full = λ o. v };
          number = λ o. absurd (lt_irrefl 1025 (omega arith));
          bound = h.bound;
          long = h.long ∙ l;
        }

-- a list
pub list_done : (a : Ty) {c : Ty} {s s₁ s₂ : List ℕ} {to n₁ e₁ n₂ e₂ : ℕ} → TypeDone a s s₁ to n₁ e₁ → c ≡ tlist a
    → ((k : Kind) (rs : List Row) → Entering k s₁ s₂ e₁ 3 n₁ 0 n₂ e₂ rs) → TypeDone c s s₂ to n₂ e₂
list_done a {s = s} {s₂ = s₂} {to = to} {n₂ = n₂} {e₂ = e₂} f p h =
    subst (λ d. TypeDone d s s₂ to n₂ e₂) (sym p)
    (record {
      does = λ rs r t.
          let F = f.does rs r t in
          let ws : List Row = (write_type a rs).rows in
          follow_row 3 ws F.number (λ o. refl) F.long ((h type_line ws).does (omega arith) (omega (arith, F.bound)) (omega arith) (follow_room F r) F.tracks);
    })

abbrev pub tag_kind : Tag → ℕ
tag_kind left = 2
tag_kind right = 3

pub tag_value : (t : Tag) (v : Val) {s s₁ s₂ : List ℕ} {to n₁ e₁ n₂ e₂ : ℕ} → RowsOf v s s₁ to n₁ e₁
    → ((k : Kind) (rs : List Row) → Entering k s₁ s₂ e₁ (tag_kind t) n₁ 0 n₂ e₂ rs) → RowsOf (vinj t v) s s₂ to n₂ e₂
tag_value left v f h =
    record {
      does = λ rs r t. let F = f.does rs r t in
          follow_row 2 (write_value v rs).rows F.number (λ o. refl) F.long
          ((h pattern_line (write_value v rs).rows).does (omega arith) (omega (arith, F.bound)) (omega arith) (follow_room F r) F.tracks);
    }
tag_value right v f h =
    record {
      does = λ rs r t. let F = f.does rs r t in
          follow_row 3 (write_value v rs).rows F.number (λ o. refl) F.long
          ((h pattern_line (write_value v rs).rows).does (omega arith) (omega (arith, F.bound)) (omega arith) (follow_room F r) F.tracks);
    }

pub pair_value : (v w : Val) {s s₁ s₂ s₃ : List ℕ} {to n₁ e₁ n₂ e₂ n₃ e₃ : ℕ} → RowsOf v s s₁ to n₁ e₁ → RowsOf w s₁ s₂ e₁ n₂ e₂
    → ((k : Kind) (rs : List Row) → Entering k s₂ s₃ e₂ 4 n₁ n₂ n₃ e₃ rs) → RowsOf (vnode pair_node v w) s s₃ to n₃ e₃
pair_value v w f g h =
    record {
      does = λ rs r t.
          let F = f.does rs r t in
          let qs : List Row = (write_value v rs).rows in
          let G = g.does qs (follow_room F r) F.tracks in
          let ws : List Row = (write_value w qs).rows in
          follow_row 4 ws (λ o. F.number (omega (arith, value_grows w qs))) G.number (G.long ∙ F.long)
          ((h pattern_line ws).does (omega arith) (omega (arith, F.bound)) (omega (arith, G.bound)) (follow_room G (follow_room F r)) G.tracks);
    }

-- ---- a value with a number written, by the node of its type

pub value_unit : {n : ℕ} {s s' : List ℕ} {to m e : ℕ} → ((k : Kind) (rs : List Row) → Entering k s s' to 0 0 0 m e rs) → ValueDone tunit n s s' to m e
value_unit h = record { does = λ c. unit_value h }

-- the values of a list are not numbered
pub value_list : (a : Ty) (n : ℕ) (s s' : List ℕ) (to m e : ℕ) → ValueDone (tlist a) n s s' to m e
value_list a n s s' to m e = record { does = λ c. absurd (omega (arith, c)) }

module _ (n : ℕ) (a b : Ty) {s s₁ s₂ : List ℕ} {to n₁ e₁ n₂ e₂ : ℕ} where
  pub value_left : {c : ℕ} → Counts a c → n < c → ValueDone a n s s₁ to n₁ e₁ → ((k : Kind) (rs : List Row) → Entering k s₁ s₂ e₁ 2 n₁ 0 n₂ e₂ rs)
      → ValueDone (tsum a b) n s s₂ to n₂ e₂
  value_left {c} e l f h =
      record {
        does = λ m.
            let few : count a ≤ max_values = omega (arith, count_left a b) in
            let below : n < count a = omega (arith, counted a e few) in
            subst (λ v. RowsOf v s s₂ to n₂ e₂) (ap (λ t. cond t (vinj left (unrank a n)) (vinj right (unrank b (n - count a)))) (sym (lt_ltb below))) (tag_value left (unrank a n) (f.does few) h);
      }

  pub value_right : {c : ℕ} → Counts a c → c ≤ n → ValueDone b (n - c) s s₁ to n₁ e₁ → ((k : Kind) (rs : List Row) → Entering k s₁ s₂ e₁ 3 n₁ 0 n₂ e₂ rs)
      → ValueDone (tsum a b) n s s₂ to n₂ e₂
  value_right {c} e l f h =
      record {
        does = λ m.
            let few : count a ≤ max_values = omega (arith, count_left a b) in
            let fewer : count b ≤ max_values = omega (arith, count_right a b) in
            let known : c ≡ count a = counted a e few in
            let above : count a ≤ n = omega arith in
            subst (λ v. RowsOf v s s₂ to n₂ e₂)
            (ap₂ (λ t d. cond t (vinj left (unrank a n)) (vinj right (unrank b (n - d)))) (sym (not_ltb above)) known)
            (tag_value right (unrank b (n - c)) (f.does fewer) h);
      }

  pub value_pair : {s₃ : List ℕ} {n₃ e₃ c : ℕ} → Counts b c → ValueDone a (n / c) s s₁ to n₁ e₁ → ValueDone b (n % c) s₁ s₂ e₁ n₂ e₂
      → ((k : Kind) (rs : List Row) → Entering k s₂ s₃ e₂ 4 n₁ n₂ n₃ e₃ rs) → ValueDone (tprod a b) n s s₃ to n₃ e₃
  value_pair {s₃} {n₃} {e₃} {c} e f g h =
      record {
        does = λ m.
            let few : count a ≤ max_values = omega (arith, count_first a b) in
            let fewer : count b ≤ max_values = omega (arith, count_second a b) in
            subst (λ v. RowsOf v s s₃ to n₃ e₃) (ap (λ z. vnode pair_node (unrank a (n / z)) (unrank b (n % z))) (counted b e fewer))
            (pair_value (unrank a (n / c)) (unrank b (n % c)) (f.does few) (g.does fewer) h);
      }
