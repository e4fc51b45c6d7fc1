-- Request 07: what the two services answer and leave in every lent area, and the promises of them. Each call has areas of its own.
use Prim.Native.Nat.{ℕ, ◌≤◌, ◌<◌}
use native.Mathlib.Omega.{arith}
use mathlib.Core.Path.{◌≡◌, refl, sym, ap, ◌∙◌, subst}
use mathlib.Core.Logic.{◌↔◌}
use mathlib.Core.Bool.{Bool, true, false, ◌||◌, or-true, or-false}
use mathlib.Core.Option.{Option, none, some}
use mathlib.Core.List.{List, [], ◌∷◌}
use lib.Dec.{ltb}
use lib.ListN.{length, take, drop, get_elem?}
use lib.Seq.{take-append_seam}
use Rattle.limits.specs.Limits.{max_pairs, table_length, work_length, export_length, import_length, max_clauses}
use Rattle.calculus.specs.Trees.{Iso}
use Rattle.calculus.specs.Lists.{is_free}
use Rattle.calculus.specs.Refusals.{Refusal, number, short_area, no_value, spent}
use Rattle.format.specs.Lines.{Row, lines, without_returns}
use Rattle.format.specs.Unfold.{isos_of}
use Rattle.calculus.specs.Letters.{letters}
use Rattle.model.specs.Services.{Verdict, accepted, refused, verdict, written, table_after, work_after, short, unless, answer_of, check, run, Outcome, gives, Output, output_by}
use Rattle.model.specs.Services.{fails, refusal_number, bytes_from, served, serve}
use Rattle.calculus.proofs.Basic.{some_inj, lt_ltb, not_ltb}
use Rattle.model.proofs.Files.{number_positive}
use Rattle.model.proofs.Sheets.{long_enough}
use Rattle.law_ranking.specs.Numbering.{count, unrank, types_of}
use Rattle.model.proofs.Outcomes.{past_short, given_accepted}
use Rattle.law_ranking.proofs.Outcomes.{small_type}
use Rattle.law_pairlists.specs.PairLists.{pair_lines, tos_of, settings, to_from, upwards, on_pairs, export_rows, import_rows, export_on, import_on, export_service, import_service}
use Rattle.law_pairlists.specs.BadLists.{BadImport}
use Rattle.law_pairlists.proofs.File.{closed_iso}
use Rattle.law_pairlists.proofs.List.{Taken, tos_length}
use Rattle.law_pairlists.proofs.Imports.{Imported, imported, Trades, import_accepted, written_ceiling, import_export}
use Rattle.law_pairlists.proofs.Exports.{Exported, exported, export_taken, export_reads}
use Rattle.law_pairlists.proofs.Runs.{import_run, answers_alike, answers_back, answers_only, answers_only_back, refuses_alike, export_few, export_spent}
use Rattle.law_pairlists.proofs.Once.{lines_once}
use Rattle.law_pairlists.proofs.BadLists.{bad_import_iff}

-- ---- outcomes and verdicts

given_bytes : (x : Outcome (List ℕ)) → refusal_number x ≡ 0 → x ≡ gives (bytes_from x)
given_bytes (gives bs) e = refl
given_bytes (fails f) e = absurd (omega (arith, e, number_positive f))

-- a refusal writes nothing
nothing : (o : List ℕ) (x : Outcome (List ℕ)) → 0 < refusal_number x → (length (bytes_from x) ≡ 0) × (written (bytes_from x) o ≡ o)
nothing o (gives bs) h = absurd (omega arith)
nothing o (fails f) h = (refl, refl)

-- areas of the stated lengths
room_enough : (t w o : List ℕ) (n : ℕ) → table_length ≤ length t → work_length ≤ length w → n ≤ length o → (short t w || ltb (length o) n) ≡ false
room_enough t w o n long wide room = ap (λ b. short t w || b) (not_ltb room) ∙ or-false (short t w) ∙ long_enough t w long wide

-- ---- import

module _ (file t w : List ℕ) (i j : ℕ) (list o : List ℕ) where
  -- the file that is written
  abbrev pub written_file : List ℕ
  written_file = take (import_service file t w i j list o).length (import_service file t w i j list o).output

  -- an output area below 65,536 bytes is 1 before anything else, and nothing changes
  pub import_short : length o < import_length → import_service file t w i j list o ≡ record
      { refusal = some short_area; answer = record { number = 1; line = 0 }; length = 0; table = t; work = w; output = o }
  unfolding import_service
  import_short h =
      ap (λ b. output_by o (serve b (verdict file) (λ rs. import_rows rs i j list) t w)) (ap (λ b. short t w || b) (lt_ltb h) ∙ or-true (short t w))

  -- a refusal writes nothing
  pub import_refused : 0 < (import_service file t w i j list o).answer.number
      → ((import_service file t w i j list o).length ≡ 0) × ((import_service file t w i j list o).output ≡ o)
  unfolding import_service
  import_refused = nothing o (import_on (unless (short t w || ltb (length o) import_length) (verdict file)) i j list)

  -- what is answered without a refusal, and where it stands
  pub import_given : (import_service file t w i j list o).answer.number ≡ 0 → import_on (verdict file) i j list ≡ gives written_file
  unfolding import_service
  import_given e =
      let x : Outcome (List ℕ) = import_on (unless (short t w || ltb (length o) import_length) (verdict file)) i j list in
      past_short (short t w || ltb (length o) import_length) (verdict file) (λ rs. import_rows rs i j list) (given_bytes x e)
      ∙ ap gives (sym (take-append_seam (bytes_from x) (drop (length (bytes_from x)) o)))

  -- "with either 7 the table holds the accepted file's lines": table and work area are as after Check, whatever is answered
  pub import_areas : import_length ≤ length o → ((import_service file t w i j list o).table ≡ (check file t w).table) × ((import_service file t w i j list o).work ≡ (check file t w).work)
  unfolding check import_service
  import_areas room =
      let e : (short t w || ltb (length o) import_length) ≡ short t w = ap (λ b. short t w || b) (not_ltb room) ∙ or-false (short t w) in
      (ap (λ b. table_after (unless b (verdict file)) t) e, ap (λ b. work_after (unless b (verdict file)) w) e)

  -- Check's own refusals come first, with their line
  pub import_check : import_length ≤ length o → 0 < (check file t w).answer.number → (import_service file t w i j list o).answer ≡ (check file t w).answer
  unfolding check import_service
  import_check room h =
      ap (λ b. (output_by o (serve b (verdict file) (λ rs. import_rows rs i j list) t w)).answer) (ap (λ b. short t w || b) (not_ltb room) ∙ or-false (short t w))
      ∙ go (unless (short t w) (verdict file)) h
    where
      go : (v : Verdict) → 0 < (answer_of v).number → (output_by o (served v (import_on v i j list) t w)).answer ≡ answer_of v
      go (accepted rs) k = absurd (omega arith)
      go (refused f n) k = refl

  -- Import's own refusals, 15, 18, 7 and 20, "at line 0": of an accepted file's rows, in areas of the stated lengths
  pub import_answers : (rs : List Row) → verdict file ≡ accepted rs → table_length ≤ length t → work_length ≤ length w → import_length ≤ length o
      → (f : Refusal) → import_rows rs i j list ≡ fails f
      → import_service file t w i j list o
      ≡ record { refusal = some f; answer = record { number = number f; line = 0 }; length = 0; table = table_after (accepted rs) t; work = work_after (accepted rs) w; output = o }
  unfolding import_service
  import_answers rs e long wide room f p =
      ap (λ b. output_by o (serve b (verdict file) (λ rs. import_rows rs i j list) t w)) (room_enough t w o import_length long wide room)
      ∙ ap (λ v. output_by o (served v (import_on v i j list) t w)) e
      ∙ ap (λ x. output_by o (served (accepted rs) x t w)) p

  -- 20 exactly where both T lines are there and have few values, and the list, of no more lines than an iso clauses, is bad in the request's words
  pub import_bad_exactly : (rs : List Row) → verdict file ≡ accepted rs → table_length ≤ length t → work_length ≤ length w → import_length ≤ length o
      → ((import_service file t w i j list o).answer ≡ record { number = 20; line = 0 }) ↔ BadImport rs i j (lines list)
  unfolding import_service
  import_bad_exactly rs e long wide room =
      let s =
      ap (λ b. (output_by o (serve b (verdict file) (λ rs. import_rows rs i j list) t w)).answer) (room_enough t w o import_length long wide room)
      ∙ ap (λ v. (output_by o (served v (import_on v i j list) t w)).answer) e in
      let h = bad_import_iff rs i j list in
      (λ a. h.0 (ap (λ x. x.number) (sym s ∙ a)), λ b. s ∙ ap (λ n. record { number = n; line = 0 }) (h.1 b))

  module _ (done : (import_service file t w i j list o).answer.number ≡ 0) where
    -- an accepted file, and what its list comes to
    pub import_of : (rs : List Row) × (verdict file ≡ accepted rs) × Imported rs i j list written_file
    import_of =
        let (rs, e, g) = given_accepted (verdict file) (λ rs. import_rows rs i j list) (import_given done) in (rs, e, imported rs i j list written_file g)

    abbrev source : Imported import_of.0 i j list written_file
    source = import_of.2

    trades : Trades source.from source.to source.tos written_file
    trades = import_accepted file import_of.0 import_of.1 i j list written_file source

    -- an import that is not refused is accepted by Check
    pub import_checks : (t₂ w₂ : List ℕ) → table_length ≤ length t₂ → work_length ≤ length w₂ → (check written_file t₂ w₂).answer ≡ record { number = 0; line = 0 }
    unfolding check
    import_checks t₂ w₂ long wide =
        ap (λ b. answer_of (unless b (verdict written_file))) (long_enough t₂ w₂ long wide) ∙ ap answer_of trades.accepts

    -- its one iso has the two types
    pub import_iso : (rows : List Row) × (verdict written_file ≡ accepted rows)
        × ((n : ℕ) × (isos_of rows ≡ closed_iso n source.from source.to (settings source.from source.to 0 source.tos) ∷ []))
    import_iso = (trades.rows, trades.accepts, (trades.line, trades.isos))

    -- and its run of value k counts 1 and gives value `to` of line k
    pub import_runs : (k to budget : ℕ) → get_elem? source.tos k ≡ some to → 1 ≤ budget
        → run written_file 0 false budget (letters (unrank source.from k)) ≡ gives (1, letters (unrank source.to to))
    import_runs k to budget e l = import_run source.from source.to source.tos written_file source.taken trades k to budget e l

    -- "Exporting an imported list with a budget of 1 or more gives the list without its carriage returns."
    pub import_exports : (budget : ℕ) (t₂ w₂ o₂ : List ℕ) → 1 ≤ budget → table_length ≤ length t₂ → work_length ≤ length w₂ → export_length ≤ length o₂
        → ((export_service written_file t₂ w₂ 0 budget o₂).answer ≡ record { number = 0; line = 0 })
        × ((export_service written_file t₂ w₂ 0 budget o₂).length ≡ length (without_returns list))
        × ((export_service written_file t₂ w₂ 0 budget o₂).output ≡ written (without_returns list) o₂)
    unfolding export_service
    import_exports budget t₂ w₂ o₂ l long wide room =
        let x = import_export file import_of.0 import_of.1 i j list written_file (import_given done) budget l in
        let u : export_service written_file t₂ w₂ 0 budget o₂ ≡ output_by o₂ (served (accepted trades.rows) (gives (without_returns list)) t₂ w₂) =
        ap (λ b. output_by o₂ (serve b (verdict written_file) (λ rs. export_rows rs 0 budget) t₂ w₂)) (room_enough t₂ w₂ o₂ export_length long wide room)
        ∙ ap (λ y. output_by o₂ (served (verdict written_file) y t₂ w₂)) x ∙ ap (λ v. output_by o₂ (served v (gives (without_returns list)) t₂ w₂)) trades.accepts in
        (ap (λ (r : Output). r.answer) u, ap (λ (r : Output). r.length) u, ap (λ (r : Output). r.output) u)

    -- "no equal line twice": no two lines of a written file are equal
    pub import_once : (m n : ℕ) (line : List ℕ) → get_elem? (lines written_file) m ≡ some line → get_elem? (lines written_file) n ≡ some line → m ≡ n
    import_once m n line d e =
        let rs = import_of.0 in
        let ha = small_type file rs import_of.1 i source.from source.first in
        let hb = small_type file rs import_of.1 j source.to source.second in
        let l : length source.tos ≤ max_clauses = let z = tos_length 0 (lines list) source.tos source.reads in let s = source.short in omega arith in
        let few = (written_ceiling source.from source.to source.tos ha hb l source.taken).0 source.within in
        lines_once source.from source.to source.tos ha hb l source.taken few m n line (ap (λ z. get_elem? (lines z) m) (sym source.bytes) ∙ d)
        (ap (λ z. get_elem? (lines z) n) (sym source.bytes) ∙ e)

-- ---- export

-- an export that gets so far is given or 17
data Ended : Outcome (List ℕ) → Type 0 where
  given : (bs : List ℕ) → Ended (gives bs)
  over : Ended (fails spent)

only_spent : (rs : List Row) (i budget : ℕ) (x : Iso) → get_elem? (isos_of rs) i ≡ some x → is_free (isos_of rs) i ≡ true → count x.from ≤ max_pairs → Ended (export_rows rs i budget)
only_spent rs i budget x p free few = subst Ended (sym (export_few rs i budget x p free few)) (go (upwards (to_from (isos_of rs) i x budget) 0 (count x.from)))
  where
    go : (y : Option (List ℕ)) → Ended (on_pairs y)
    go none = over
    go (some ts) = given (pair_lines 0 ts)

is_spent : (y : Outcome (List ℕ)) → Ended y → refusal_number y ≡ 17 → y ≡ fails spent
is_spent y (given bs) e = absurd (omega arith)
is_spent y over e = refl

module _ (file t w : List ℕ) (i budget : ℕ) (o : List ℕ) where
  -- the list that is written
  abbrev pub written_list : List ℕ
  written_list = take (export_service file t w i budget o).length (export_service file t w i budget o).output

  pub export_short : length o < export_length → export_service file t w i budget o ≡ record
      { refusal = some short_area; answer = record { number = 1; line = 0 }; length = 0; table = t; work = w; output = o }
  unfolding export_service
  export_short h =
      ap (λ b. output_by o (serve b (verdict file) (λ rs. export_rows rs i budget) t w)) (ap (λ b. short t w || b) (lt_ltb h) ∙ or-true (short t w))

  pub export_refused : 0 < (export_service file t w i budget o).answer.number
      → ((export_service file t w i budget o).length ≡ 0) × ((export_service file t w i budget o).output ≡ o)
  unfolding export_service
  export_refused = nothing o (export_on (unless (short t w || ltb (length o) export_length) (verdict file)) i budget)

  pub export_given : (export_service file t w i budget o).answer.number ≡ 0 → export_on (verdict file) i budget ≡ gives written_list
  unfolding export_service
  export_given e =
      let x : Outcome (List ℕ) = export_on (unless (short t w || ltb (length o) export_length) (verdict file)) i budget in
      past_short (short t w || ltb (length o) export_length) (verdict file) (λ rs. export_rows rs i budget) (given_bytes x e)
      ∙ ap gives (sym (take-append_seam (bytes_from x) (drop (length (bytes_from x)) o)))

  pub export_areas : export_length ≤ length o → ((export_service file t w i budget o).table ≡ (check file t w).table) × ((export_service file t w i budget o).work ≡ (check file t w).work)
  unfolding check export_service
  export_areas room =
      let e : (short t w || ltb (length o) export_length) ≡ short t w = ap (λ b. short t w || b) (not_ltb room) ∙ or-false (short t w) in
      (ap (λ b. table_after (unless b (verdict file)) t) e, ap (λ b. work_after (unless b (verdict file)) w) e)

  -- Export's own refusals, 15, 18 and 17, at line 0
  pub export_answers : (rs : List Row) → verdict file ≡ accepted rs → table_length ≤ length t → work_length ≤ length w → export_length ≤ length o
      → (f : Refusal) → export_rows rs i budget ≡ fails f
      → export_service file t w i budget o
      ≡ record { refusal = some f; answer = record { number = number f; line = 0 }; length = 0; table = table_after (accepted rs) t; work = work_after (accepted rs) w; output = o }
  unfolding export_service
  export_answers rs e long wide room f p =
      ap (λ b. output_by o (serve b (verdict file) (λ rs. export_rows rs i budget) t w)) (room_enough t w o export_length long wide room)
      ∙ ap (λ v. output_by o (served v (export_on v i budget) t w)) e
      ∙ ap (λ x. output_by o (served (accepted rs) x t w)) p

  -- export's 17 is that of some lone run, and of no other: of an accepted file with areas of the stated lengths, for an iso that is there, has to do with no list and
  -- has few values
  pub export_17 : (rs : List Row) → verdict file ≡ accepted rs → (x : Iso) → get_elem? (isos_of rs) i ≡ some x → is_free (isos_of rs) i ≡ true → count x.from ≤ max_pairs
      → table_length ≤ length t → work_length ≤ length w → export_length ≤ length o
      → (((export_service file t w i budget o).answer.number ≡ 17) → (k : ℕ) × (k < count x.from) × (run file i false budget (letters (unrank x.from k)) ≡ fails spent))
      × (((k : ℕ) × (k < count x.from) × (run file i false budget (letters (unrank x.from k)) ≡ fails spent)) → (export_service file t w i budget o).answer.number ≡ 17)
  unfolding export_service
  export_17 rs e x p free few long wide room =
      let u : (export_service file t w i budget o).answer.number ≡ refusal_number (export_rows rs i budget) =
      ap (λ b. refusal_number (export_on (unless b (verdict file)) i budget)) (room_enough t w o export_length long wide room) ∙ ap (λ v. refusal_number (export_on v i budget)) e in
      let s = export_spent file rs e i budget x p free few in
      (λ n. s.0 (is_spent (export_rows rs i budget) (only_spent rs i budget x p free few) (sym u ∙ n)), λ k. u ∙ ap refusal_number (s.1 k))

  module _ (done : (export_service file t w i budget o).answer.number ≡ 0) where
    pub export_of : (rs : List Row) × (verdict file ≡ accepted rs) × Exported rs i budget written_list
    export_of =
        let (rs, e, g) = given_accepted (verdict file) (λ rs. export_rows rs i budget) (export_given done) in (rs, e, exported rs i budget written_list g)

    -- export's lines are a permutation of the to-numbers: as many as either type has values, each below the count, none twice
    pub export_permutes : (tos_of 0 (lines written_list) ≡ some export_of.2.tos) × Taken export_of.2.iso.from export_of.2.iso.to export_of.2.tos
    export_permutes =
        (export_reads file export_of.0 export_of.1 i budget written_list export_of.2, export_taken file export_of.0 export_of.1 i budget written_list export_of.2)

-- ---- export, then import over the same T lines

module _ (file t w : List ℕ) (i budget : ℕ) (o : List ℕ) (done : (export_service file t w i budget o).answer.number ≡ 0)
    (t₂ w₂ : List ℕ) (a b : ℕ) (o₂ : List ℕ) (again : (import_service file t₂ w₂ a b (written_list file t w i budget o) o₂).answer.number ≡ 0) where
  abbrev list : List ℕ
  list = written_list file t w i budget o

  abbrev out : List ℕ
  out = written_file file t₂ w₂ a b list o₂

  abbrev rs : List Row
  rs = (export_of file t w i budget o done).0

  abbrev iso : Iso
  iso = (export_of file t w i budget o done).2.iso

  -- what was imported, over the lines of the exported file
  trade : Imported rs a b list out
  trade =
      imported rs a b list out (ap (λ v. import_on v a b list) (sym (export_of file t w i budget o done).1) ∙ import_given file t₂ w₂ a b list o₂ again)

  module _ (f : get_elem? (types_of rs) a ≡ some iso.from) (g : get_elem? (types_of rs) b ≡ some iso.to) where
    from_same : trade.from ≡ iso.from
    from_same = some_inj (sym trade.first ∙ f)

    to_same : trade.to ≡ iso.to
    to_same = some_inj (sym trade.second ∙ g)

    -- T lines a and b have the types of the exported iso: the imported file answers every run as that iso does, the count aside, there and back. What that iso
    -- gives, it gives,
    pub export_imports : (any c : ℕ) (p q : List ℕ)
        → (run file i false any p ≡ gives (c, q) → run out 0 false 1 p ≡ gives (1, q)) × (run file i true any q ≡ gives (c, p) → run out 0 true 1 q ≡ gives (1, p))
    export_imports any c p q =
        let e = (export_of file t w i budget o done).1 in
        let x = (export_of file t w i budget o done).2 in
        (answers_alike file rs e i budget list x a b out trade from_same to_same any c p q, answers_back file rs e i budget list x a b out trade from_same to_same any c p q)

    -- and nothing else: what it gives, that iso gives under some budget;
    pub export_imports_only : (any c : ℕ) (p q : List ℕ)
        → (run out 0 false any p ≡ gives (c, q) → (k : ℕ) × (run file i false k p ≡ gives (k, q))) × (run out 0 true any q ≡ gives (c, p) → (k : ℕ) × (run file i true k q ≡ gives (k, p)))
    export_imports_only any c p q =
        let e = (export_of file t w i budget o done).1 in
        let x = (export_of file t w i budget o done).2 in
        (answers_only file rs e i budget list x a b out trade from_same to_same any c p q, answers_only_back file rs e i budget list x a b out trade from_same to_same any c p q)

    -- and what is no value of the starting type for the one is none for the other
    pub export_imports_strange : (back : Bool) (any any' : ℕ) (p : List ℕ) → (run file i back any p ≡ fails no_value) ↔ (run out 0 back any' p ≡ fails no_value)
    export_imports_strange =
        refuses_alike file rs (export_of file t w i budget o done).1 i budget list (export_of file t w i budget o done).2 a b out trade from_same to_same
