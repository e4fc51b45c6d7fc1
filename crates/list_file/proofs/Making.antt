-- The rows of a file in three areas, and its bytes, or refusal 7.
use Prim.Native.Nat.{ℕ, ◌+◌, ◌*◌, ◌≤◌, ◌<◌, min}
use native.Mathlib.Nat.{lt_irrefl, zero-add}
use native.Mathlib.Omega.{arith}
use mathlib.Core.Path.{◌≡◌, refl, sym, ap, ◌∙◌, subst}
use mathlib.Core.Logic.{◌⊎◌, inl, inr}
use mathlib.Core.Bool.{true, false, cond}
use mathlib.Core.Option.{none, some}
use mathlib.Core.List.{List, [], ◌∷◌, ◌++◌}
use lib.Dec.{leb}
use lib.ListN.{length, take, drop}
use lib.Seq.{sets-eq, length-take-le}
use Rattle.limits.specs.Limits.{max_nodes, max_tags, many_tags, max_values, max_clauses, row_width, numeral_bound}
use Rattle.calculus.specs.Trees.{Ty, Val, type_nodes, most_tags}
use Rattle.calculus.specs.Refusals.{type_line, pattern_line, clause_line, ceiling}
use Rattle.format.specs.Lines.{Row, print_rows}
use Rattle.format.specs.Judge.{start}
use Rattle.model.specs.Services.{written, gives, fails, refusal_of, bytes_from}
use Rattle.format.specs.Code.{refusal_view}
use Rattle.calculus.proofs.Basic.{bool_cases, leb_le, leb_false, is_false}
use Rattle.law_ranking.specs.Numbering.{count}
use Rattle.area_cells.specs.Areas.{Writes}
use Rattle.law_pairlists.specs.PairLists.{pairs_up, write_type, write_pairs, iso_row, settings, file_rows, within_all, writing}
use Rattle.law_pairlists.proofs.File.{type_room}
use Rattle.law_pairlists.proofs.List.{Taken, few_taken}
use Rattle.law_pairlists.proofs.Imports.{Light, written_ceiling, written_room}
use Rattle.list_entries.specs.Entries.{max_entries, entries_at, Tracks, Room, Follows}
use Rattle.list_entries.proofs.Tracking.{entries_length}
use Rattle.list_writing.specs.Writing.{TypeDone, PairsDone}
use Rattle.list_file.specs.Filing.{FileMade, RowsMade}
use Rattle.list_file.specs.declared.Filed as F

-- no rows yet
none_yet : (s : List ℕ) → Tracks type_line s 0 []
none_yet s = record { few = omega arith; exact = λ h. refl; full = λ h. absurd (lt_irrefl 0 (omega arith)) }

-- an area that follows rows has as many
tracks_length : {s : List ℕ} {end : ℕ} {rs : List Row} → Tracks pattern_line s end rs → length rs ≤ 1025 → end ≡ length rs
tracks_length {s} {end} t h = sym (entries_length pattern_line s 0 end) ∙ ap length (t.exact h)

-- … more than 1,024 exactly where it says so
tracks_few : {s : List ℕ} {end : ℕ} {rs : List Row} → Tracks pattern_line s end rs → end ≤ 1024 → length rs ≤ 1024
tracks_few {s} {end} {rs} t h = go (bool_cases (leb (length rs) 1025))
  where
    go : (leb (length rs) 1025 ≡ true) ⊎ (leb (length rs) 1025 ≡ false) → length rs ≤ 1024
    go (inl c) = let e = tracks_length t (leb_le (length rs) 1025 c) in omega arith
    go (inr c) = let e = t.full (leb_false (length rs) 1025 c) in absurd (lt_irrefl 1024 (omega arith))

tracks_many : {s : List ℕ} {end : ℕ} {rs : List Row} → Tracks pattern_line s end rs → 1024 < end → length rs ≤ 1024 → ⊥
tracks_many t h l = let e = tracks_length t (omega arith) in lt_irrefl 1024 (omega arith)

-- the iso's types
record Types (a b : Ty) (s : List ℕ) (m n e : ℕ) : Type 0 where
  rows : entries_at type_line s 0 e ≡ (write_type b (write_type a []).rows).rows
  from : m ≡ (write_type a []).number
  to : n ≡ (write_type b (write_type a []).rows).number
  below : m ≤ 1025
  under : n ≤ 1025

types_made : (a b : Ty) {s s₁ s₂ : List ℕ} {m d n e : ℕ} → type_nodes a ≤ max_nodes → type_nodes b ≤ max_nodes → Room s → TypeDone a s s₁ 0 m d → TypeDone b s₁ s₂ d n e
    → Types a b s₂ m n e
types_made a b {s} {s₁} {s₂} {m} {d} {n} {e} ha hb r f g =
    both (f.does [] r (none_yet s)) (λ F. g.does (write_type a []).rows (record { words = subst (λ i. max_entries * row_width ≤ i) (sym F.long) r.words }) F.tracks)
  where
    few : length (write_type a []).rows ≤ 127
    few = let p = type_room a [] in omega arith

    most : length (write_type b (write_type a []).rows).rows ≤ 254
    most = let p = type_room b (write_type a []).rows in omega (arith, few)

    both : Follows type_line s s₁ m d (write_type a []).rows (write_type a []).number
        → (Follows type_line s s₁ m d (write_type a []).rows (write_type a []).number
        → Follows type_line s₁ s₂ n e (write_type b (write_type a []).rows).rows (write_type b (write_type a []).rows).number) → Types a b s₂ m n e
    both F G =
        let H = G F in
        record { rows = H.tracks.exact (omega (arith, most)); from = F.number (omega (arith, few)); to = H.number (omega (arith, most)); below = F.bound; under = H.bound }

-- ---- the file

file_rows_lem : (a b : Ty) (cs : List (Val × Val)) {ts ps qs : List Row} {m n : ℕ} → ts ≡ (write_type b (write_type a []).rows).rows → m ≡ (write_type a []).number
    → n ≡ (write_type b (write_type a []).rows).number → ps ≡ (write_pairs cs []).patterns → qs ≡ (write_pairs cs []).clauses → ts ++ (ps ++ (iso_row m n ∷ qs)) ≡ file_rows a b cs
unfolding file_rows
file_rows_lem a b cs et em en ep eq = λ i. et i ++ (ep i ++ (iso_row (em i) (en i) ∷ eq i))

module _ (a b : Ty) (tos : List ℕ) (k : ℕ) (o : List ℕ) (most : k ≤ max_clauses) where
  abbrev rows : List Row
  rows = file_rows a b (settings a b 0 (take k tos))

  abbrev patterns : List Row
  patterns = (write_pairs (settings a b 0 (take k tos)) []).patterns

  short_list : k ≤ length tos → length (take k tos) ≤ max_clauses
  short_list h = let l = length-take-le k tos h in omega arith

  taken : k ≤ length tos → pairs_up a b (take k tos) ≡ true → Taken a b (take k tos)
  taken h up = let l = short_list h in few_taken a b (take k tos) (omega arith) up

  counts : k ≤ length tos → Taken a b (take k tos) → (count a ≤ max_values) × (count b ≤ max_values)
  counts h t = let l = short_list h in let f = t.froms in let g = t.tos in (omega arith, omega arith)

  module _ {p p' q q' : List ℕ} {end : ℕ} (pairs : PairsDone a b tos k p p' q q' end) (wide : max_entries * row_width ≤ length p) (long : max_clauses * row_width ≤ length q) where
    -- over 1,024 P lines
    pub file_over : 1024 < end → (r : F.Filed) → refusal_view r.refusal ≡ some (ceiling pattern_line) → r.length ≡ 0 → RowsMade a b tos k o o r
    file_over h r n l =
        record {
          does = λ ta tb ha hb le up room.
              let t = taken le up in
              let c = counts le t in
              let d = pairs.does c.0 c.1 le (record { words = wide }) long in
              let no_room : within_all start rows ≡ false = is_false (within_all start rows) (λ w. tracks_many d.0 h ((written_ceiling a b (take k tos) ha hb (short_list le) t).0 w).few) in
              let x : writing rows ≡ fails (ceiling pattern_line) = ap (λ y. cond y (gives (print_rows rows)) (fails (ceiling pattern_line))) no_room in
              record {
                refusal = n ∙ sym (ap refusal_of x);
                bytes = l ∙ sym (ap (λ y. length (bytes_from y)) x);
                output = sym (ap (λ y. written (bytes_from y) o) x);
              };
        }

    -- within it
    pub file_made : {s s₁ s₂ : List ℕ} {m d n e : ℕ} → max_entries * row_width ≤ length s → TypeDone a s s₁ 0 m d → TypeDone b s₁ s₂ d n e → end ≤ 1024 → {o' : List ℕ} {len : ℕ}
        → (m < numeral_bound → n < numeral_bound → Writes o o' 0 len (print_rows (entries_at type_line s₂ 0 e ++ (entries_at pattern_line p' 0 end ++ (iso_row m n ∷ entries_at clause_line q' 0 k)))))
        → (r : F.Filed) → refusal_view r.refusal ≡ none → r.length ≡ len → RowsMade a b tos k o o' r
    file_made {s} {s₁} {s₂} {m} {d} {n} {e} area f g h {o'} {len} w r j l =
        record {
          does = λ ta tb ha hb le up room.
              let t = taken le up in
              let c = counts le t in
              let z = pairs.does c.0 c.1 le (record { words = wide }) long in
              let few = tracks_few z.0 h in
              let light : Light a b (take k tos) = record { from = ta; to = tb; few = few } in
              let types = types_made a b ha hb (record { words = area }) f g in
              let x : writing rows ≡ gives (print_rows rows) =
              ap (λ y. cond y (gives (print_rows rows)) (fails (ceiling pattern_line))) ((written_ceiling a b (take k tos) ha hb (short_list le) t).1 light) in
              let same : entries_at type_line s₂ 0 e ++ (entries_at pattern_line p' 0 end ++ (iso_row m n ∷ entries_at clause_line q' 0 k)) ≡ rows =
              file_rows_lem a b (settings a b 0 (take k tos)) types.rows types.from types.to (z.0.exact (omega (arith, few))) (z.1 (omega (arith, few))) in
              let bs : List ℕ = print_rows rows in
              let put : Writes o o' 0 len bs = subst (λ y. Writes o o' 0 len (print_rows y)) same (w (omega (arith, types.below)) (omega (arith, types.under))) in
              let zero : 0 + length bs ≡ length bs = zero-add (length bs) in
              let fits : 0 + length bs ≤ length o = omega (arith, written_room a b (take k tos) ha hb (short_list le) t light) in
              record {
                refusal = j ∙ sym (ap refusal_of x);
                bytes = l ∙ put.place fits ∙ zero ∙ sym (ap (λ y. length (bytes_from y)) x);
                output = put.area fits ∙ sets-eq bs o 0 fits ∙ ap (λ y. bs ++ drop y o) zero ∙ sym (ap (λ y. written (bytes_from y) o) x);
              };
        }

  -- a value of over 40 left and right nodes
  pub file_heavy : {x : ℕ} → (most_tags a ≤ max_tags → most_tags b ≤ max_tags → x ≤ max_tags) → {n : ℕ} → n ≡ min many_tags x → max_tags < n → (r : F.Filed)
      → (refusal_view r.refusal ≡ some (ceiling pattern_line)) × (r.length ≡ 0) → FileMade a b tos k o o r
  file_heavy {x} light {n} e over r says =
      record {
        does = λ ha hb le up room.
            let t = taken le up in
            let no_room : within_all start rows ≡ false =
            is_false (within_all start rows)
            (λ w. let l = (written_ceiling a b (take k tos) ha hb (short_list le) t).0 w in let z = light l.from l.to in absurd (lt_irrefl 40 (omega arith))) in
            let y : writing rows ≡ fails (ceiling pattern_line) = ap (λ y. cond y (gives (print_rows rows)) (fails (ceiling pattern_line))) no_room in
            record {
              refusal = says.0 ∙ sym (ap refusal_of y);
              bytes = says.1 ∙ sym (ap (λ z. length (bytes_from z)) y);
              output = sym (ap (λ z. written (bytes_from z) o) y);
            };
      }

  pub file_light : {o' : List ℕ} {r : F.Filed} {m n : ℕ} → m ≡ min many_tags (most_tags a) → m ≤ max_tags → n ≡ min many_tags (most_tags b) → n ≤ max_tags
      → RowsMade a b tos k o o' r → FileMade a b tos k o o' r
  file_light e l f g h = record { does = λ ha hb le up room. h.does (omega arith) (omega arith) ha hb le up room }
