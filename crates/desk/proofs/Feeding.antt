-- The code's steps against the machine's: one byte, the bytes of a chunk, and the end of the input.
use Prim.Native.Nat.{ℕ, ◌+◌, ◌-◌, ◌≤◌, ◌<◌}
use native.Mathlib.Nat.{pos_of_ne-zero}
use native.Mathlib.Numerals.{add-one}
use native.Mathlib.Omega.{arith}
use mathlib.Core.Path.{◌≡◌, refl, sym, ap, ap₂, ◌∙◌, subst}
use mathlib.Core.Logic.{◌⊎◌, inl, inr}
use mathlib.Core.Bool.{Bool, true, false, cond, ◌&&◌}
use mathlib.Core.Option.{Option, none, some}
use mathlib.Core.List.{List, [], ◌∷◌, ◌++◌}
use lib.Dec.{ltb, leb, eqb}
use lib.ListN.{length, take, get_or, length-append}
use lib.Seq.{sets, length-sets, take-suc}
use borrow.Author.Tests.{eq-eqb, ne_eqb, lt-ltb, le-ltb, lt-leb, le-leb, ltb-true, ltb-false, leb-true, leb-false}
use Rattle.limits.specs.Limits.{line_feed, letter_q, work_length}
use Rattle.calculus.specs.Refusals.{Refusal}
use Rattle.calculus.specs.Tools.{is_some}
use Rattle.format.specs.Lines.{Row}
use Rattle.model.specs.Services.{verdict, answer_of}
use Rattle.model.specs.Desk.{file_line}
use Rattle.format.specs.Code.{refusal_view}
use Rattle.calculus.proofs.Basic.{bool_cases, is_some_true, not_both}
use Rattle.area_cells.specs.Areas.{Prints}
use Rattle.area_cells.proofs.Writing.{sets_append, prints_none, prints_as}
use Rattle.checker.specs.CheckSays.{Accepted}
use Rattle.checker.specs.declared.Checked as C
use Rattle.runner.specs.RunSays.{Prepared}
use Rattle.query_lines.specs.Stream.{State, collecting, asking, Step, opens, begun, close, answered, step, finish, steps}
use Rattle.query_lines.proofs.Streaming.{steps_more, opens_append, and_false}
use Rattle.desk.specs.declared.Desk as D
use Rattle.desk.specs.declared.Phase.TheVariants as phases
use Rattle.desk.specs.declared.Next as N
use Rattle.desk.specs.DeskSays.{file_room, line_room, answer_room, Roomy, Holds, DeskAt, collects, asks, stops, Printed, Reaches, JudgedAs, Idle, Took, ByteSays, FeedSays, FinishSays}
use Rattle.desk.proofs.Holding.{holds_none, held_verdict, held_answer}
use Rattle.desk.proofs.Answering.{printed_none, printed_as}

-- ---- tests

-- an area of n bytes, at least 160, by what is left behind the place
room : (at n : ℕ) → 160 ≤ n → leb at (n - 160) ≡ leb (at + answer_room) n
room at n h = go (bool_cases (leb at (n - 160)))
  where
    go : (leb at (n - 160) ≡ true) ⊎ (leb at (n - 160) ≡ false) → leb at (n - 160) ≡ leb (at + answer_room) n
    go (inl t) = t ∙ sym (le-leb (at + answer_room) n (omega (arith, leb-true at (n - 160) t)))
    go (inr t) = t ∙ sym (lt-leb (at + answer_room) n (omega (arith, leb-false at (n - 160) t)))

module _ (taken bytes at n : ℕ) where
  -- an area of fewer than 160 bytes has no room
  pub goes_short : n < 160 → false ≡ (ltb taken bytes && leb (at + answer_room) n)
  goes_short h = sym (ap (λ x. ltb taken bytes && x) (lt-leb (at + answer_room) n (omega arith)) ∙ and_false (ltb taken bytes))

  -- a byte is left: the room decides
  pub goes_by_room : 160 ≤ n → taken < bytes → leb at (n - 160) ≡ (ltb taken bytes && leb (at + answer_room) n)
  goes_by_room h k = room at n h ∙ sym (ap (λ x. x && leb (at + answer_room) n) (lt-ltb taken bytes k))

  -- no byte is left
  pub goes_not : bytes ≤ taken → false ≡ (ltb taken bytes && leb (at + answer_room) n)
  goes_not h = sym (ap (λ x. x && leb (at + answer_room) n) (le-ltb taken bytes h))

  -- what the test says where it holds
  goes_both : (ltb taken bytes && leb (at + answer_room) n) ≡ true → (taken < bytes) × (at + answer_room ≤ n)
  goes_both e = go (bool_cases (ltb taken bytes))
    where
      go : (ltb taken bytes ≡ true) ⊎ (ltb taken bytes ≡ false) → (taken < bytes) × (at + answer_room ≤ n)
      go (inl t) = (ltb-true taken bytes t, leb-true (at + answer_room) n (sym (ap (λ x. x && leb (at + answer_room) n) t) ∙ e))
      go (inr t) = absurd (not_both e (ap (λ x. x && leb (at + answer_room) n) t))

  -- and where it fails
  goes_neither : (ltb taken bytes && leb (at + answer_room) n) ≡ false → (bytes ≤ taken) ⊎ (n < at + answer_room)
  goes_neither e = go (bool_cases (ltb taken bytes))
    where
      go : (ltb taken bytes ≡ true) ⊎ (ltb taken bytes ≡ false) → (bytes ≤ taken) ⊎ (n < at + answer_room)
      go (inl t) = inr (leb-false (at + answer_room) n (sym (ap (λ x. x && leb (at + answer_room) n) t) ∙ e))
      go (inr t) = inl (ltb-false taken bytes t)

-- where a line begins, the byte decides
pub begins_fresh : (b : ℕ) {fresh : Bool} → fresh ≡ true → eqb b 81 ≡ (fresh && eqb b letter_q)
begins_fresh b e = sym (ap (λ x. x && eqb b letter_q) e)

-- elsewhere no Q line begins
pub begins_not : (b : ℕ) {fresh : Bool} → fresh ≡ false → false ≡ (fresh && eqb b letter_q)
begins_not b e = sym (ap (λ x. x && eqb b letter_q) e)

-- ---- before the first byte

-- the empty file, of which nothing is kept
pub start_desk : {d : D.Desk} → d ≡ record { phase = phases.File; fresh = true; held = 0; types = 0; isos = 0 }
    → (file line table index : List ℕ) → DeskAt d file line table index (collecting [])
start_desk e file line table index = subst (λ x. DeskAt x file line table index (collecting [])) (sym e) (collects refl refl (holds_none file_room file))

-- ---- the first Q line begins

-- a test that a refusal is there
some_refused : (x : Option Refusal) {b : Bool} → b ≡ is_some x → b ≡ true → (f : Refusal) × (x ≡ some f)
some_refused x e t = is_some_true x (sym e ∙ t)

-- and that none is
none_refused : (x : Option Refusal) {b : Bool} → b ≡ is_some x → b ≡ false → x ≡ none
none_refused none e t = refl
none_refused (some f) e t = let z : ◌≡◌ {A = ℕ} 0 1 = cc in absurd (omega arith)

module _ (file area : List ℕ) {t' out out' : List ℕ} {at end : ℕ} (c : C.Checked) (d : D.Desk) {b : Bool} (k : JudgedAs file t' out out' at end c)
    (e : b ≡ is_some (refusal_view c.answer.refusal)) where
  -- the file is refused
  pub settle_refused : (line index : List ℕ) → b ≡ true → d.phase ≡ phases.Stopped → Reaches (close file) area line t' index out out' at (record { desk = d; end = end })
  settle_refused line index t p =
      let f = some_refused (refusal_view c.answer.refusal) e t in
      record {
        desk = subst (DeskAt d area line t' index) (sym (k.refuses f.0 f.1)) (stops p);
        printed = k.printed;
      }

  -- the file is accepted
  pub settle_accepted : {line' index' : List ℕ} → b ≡ false → d.phase ≡ phases.Queries → Holds line_room d.held line' (letter_q ∷ [])
      → ((a : Accepted file t' c) → Prepared t' d.types index' d.isos a.file)
      → Reaches (close file) area line' t' index' out out' at (record { desk = d; end = end })
  settle_accepted {line'} {index'} t p h prepared =
      let a = k.accepts (none_refused (refusal_view c.answer.refusal) e t) in
      record {
        desk = subst (λ v. DeskAt d area line' t' index' (begun v)) (sym a.accepts) (asks p h (prepared a));
        printed = k.printed;
      }

-- ---- a byte of the file

-- a step that is another by an equation
reaches_as : {p q : Step} {file line table index out out' : List ℕ} {at : ℕ} {r : N.Next} → p ≡ q → Reaches p file line table index out out' at r
    → Reaches q file line table index out out' at r
reaches_as {file = file} {line} {table} {index} {out} {out'} {at} {r} e h = subst (λ x. Reaches x file line table index out out' at r) e h

-- and so for the state
pub reaches_state : {p : Step} {file line table index out out' : List ℕ} {at end : ℕ} {d d' : D.Desk} → d ≡ d'
    → Reaches p file line table index out out' at (record { desk = d'; end = end }) → Reaches p file line table index out out' at (record { desk = d; end = end })
reaches_state {p} {file} {line} {table} {index} {out} {out'} {at} {end} e h = subst (λ x. Reaches p file line table index out out' at (record { desk = x; end = end })) (sym e) h

-- the file's bytes by another name
pub reaches_close : {part bs file line table index out out' : List ℕ} {at : ℕ} {r : N.Next} → part ≡ bs → Reaches (close part) file line table index out out' at r
    → Reaches (close bs) file line table index out out' at r
reaches_close e k = reaches_as (ap close e) k

-- the first Q line begins
pub file_begins : (d : D.Desk) (b : ℕ) {file line table index line' table' index' out out' : List ℕ} {at : ℕ} {r : N.Next} {t : Bool} (bs : List ℕ)
    → DeskAt d file line table index (collecting bs) → t ≡ (d.fresh && eqb b letter_q) → t ≡ true
    → Reaches (close (take d.held file)) file line' table' index' out out' at r
    → Reaches (step (collecting bs) b) file line' table' index' out out' at r
file_begins d b {file} bs (collects p f h) e t k =
    let test : (opens bs && eqb b letter_q) ≡ true = ap (λ x. x && eqb b letter_q) (sym f) ∙ sym e ∙ t in
    let closed : close (take d.held file) ≡ close bs = ap (λ v. record { next = begun v; prints = file_line (answer_of v) }) (held_verdict bs h) in
    reaches_as (closed ∙ sym (ap (λ x. cond x (close bs) (record { next = collecting (bs ++ (b ∷ [])); prints = [] })) test)) k

-- the byte is the file's
pub file_more : (d : D.Desk) (b : ℕ) {file line table index file' out : List ℕ} {at : ℕ} {r : N.Next} {t : Bool} (bs : List ℕ)
    → DeskAt d file line table index (collecting bs) → t ≡ (d.fresh && eqb b letter_q) → t ≡ false
    → (Holds file_room d.held file bs → Reaches (record { next = collecting (bs ++ (b ∷ [])); prints = [] }) file' line table index out out at r)
    → Reaches (step (collecting bs) b) file' line table index out out at r
file_more d b bs (collects p f h) e t k =
    let test : (opens bs && eqb b letter_q) ≡ false = ap (λ x. x && eqb b letter_q) (sym f) ∙ sym e ∙ t in
    reaches_as (sym (ap (λ x. cond x (close bs) (record { next = collecting (bs ++ (b ∷ [])); prints = [] })) test)) (k h)

-- and is kept
pub collects_more : (b : ℕ) {file line table index out : List ℕ} {at more : ℕ} (bs : List ℕ) → Holds file_room more file (bs ++ (b ∷ [])) → at + answer_room ≤ length out
    → Reaches (record { next = collecting (bs ++ (b ∷ [])); prints = [] }) file line table index out out at
    (record { desk = record { phase = phases.File; fresh = eqb b 10; held = more; types = 0; isos = 0 }; end = at })
collects_more b bs h roomy = record { desk = collects refl (sym (opens_append bs b)) h; printed = printed_none roomy }

-- ---- a byte of a query

-- the line feed
pub query_ends : (d : D.Desk) (b : ℕ) {file line table index line' out out' part : List ℕ} {at more end : ℕ} (fresh : Bool) (rs : List Row) (l : List ℕ)
    → DeskAt d file line table index (asking rs l) → b ≡ 10
    → (Holds line_room d.held line l → Holds line_room more line' (l ++ (b ∷ []))) → part ≡ take more line'
    → (Prepared table d.types index d.isos rs → Printed out out' at end (answered rs part))
    → Reaches (step (asking rs l) b) file line' table index out out' at
    (record { desk = record { phase = phases.Queries; fresh = fresh; held = 0; types = d.types; isos = d.isos }; end = end })
query_ends d b {line' = line'} fresh rs l (asks p h prepared) e hold q prints =
    reaches_as
    (sym (ap (λ x. cond x (record { next = asking rs []; prints = answered rs (l ++ (b ∷ [])) }) (record { next = asking rs (l ++ (b ∷ [])); prints = [] })) (eq-eqb b line_feed e)))
    (record {
      desk = asks refl (holds_none line_room line') prepared;
      printed = printed_as (ap (answered rs) q ∙ held_answer rs (l ++ (b ∷ [])) (hold h)) (prints prepared);
    })

-- another byte
pub query_more : (d : D.Desk) (b : ℕ) {file line table index line' out : List ℕ} {at more : ℕ} (fresh : Bool) (rs : List Row) (l : List ℕ)
    → DeskAt d file line table index (asking rs l) → (b ≡ 10 → ⊥)
    → (Holds line_room d.held line l → Holds line_room more line' (l ++ (b ∷ []))) → at + answer_room ≤ length out
    → Reaches (step (asking rs l) b) file line' table index out out at
    (record { desk = record { phase = phases.Queries; fresh = fresh; held = more; types = d.types; isos = d.isos }; end = at })
query_more d b fresh rs l (asks p h prepared) e hold roomy =
    reaches_as
    (sym (ap (λ x. cond x (record { next = asking rs []; prints = answered rs (l ++ (b ∷ [])) }) (record { next = asking rs (l ++ (b ∷ [])); prints = [] })) (ne_eqb b line_feed e)))
    (record { desk = asks refl (hold h) prepared; printed = printed_none roomy })

-- ---- a byte

-- two phases that differ are not both the state's
file_asks : (x : D.Desk) → x.phase ≡ phases.File → x.phase ≡ phases.Queries → ⊥
file_asks x p q = let z : ◌≡◌ {A = ℕ} 0 1 = cc in omega arith

-- so for the file and the end
file_stops : (x : D.Desk) → x.phase ≡ phases.File → x.phase ≡ phases.Stopped → ⊥
file_stops x p q = let z : ◌≡◌ {A = ℕ} 0 1 = cc in omega arith

-- and for queries and the end
asks_stops : (x : D.Desk) → x.phase ≡ phases.Queries → x.phase ≡ phases.Stopped → ⊥
asks_stops x p q = let z : ◌≡◌ {A = ℕ} 0 1 = cc in omega arith

module _ (d : D.Desk) (b : ℕ) {file line table work index file' line' table' index' out out' : List ℕ} {at : ℕ} {r : N.Next} where
  -- a state whose phase is the file's collects
  pub byte_of_file : d.phase ≡ phases.File
      → ((bs : List ℕ) → ByteSays (collecting bs) d b file line table work index out file' line' table' index' out' at r)
      → (s : State) → ByteSays s d b file line table work index out file' line' table' index' out' at r
  byte_of_file e h s (collects {bs} p f k) = h bs (collects p f k)
  byte_of_file e h s (asks p k q) = absurd (file_asks d e p)
  byte_of_file e h s (stops p) = absurd (file_stops d e p)

  -- one whose phase is that of queries asks
  pub byte_of_query : d.phase ≡ phases.Queries
      → ((rs : List Row) (l : List ℕ) → ByteSays (asking rs l) d b file line table work index out file' line' table' index' out' at r)
      → (s : State) → ByteSays s d b file line table work index out file' line' table' index' out' at r
  byte_of_query e h s (collects p f k) = absurd (file_asks d p e)
  byte_of_query e h s (asks {rs} {l} p k q) = h rs l (asks p k q)
  byte_of_query e h s (stops p) = absurd (asks_stops d e p)

-- a state that stopped stays so
pub byte_of_none : (d : D.Desk) (b : ℕ) {file line table work index out : List ℕ} {at : ℕ} → d.phase ≡ phases.Stopped
    → (s : State) → ByteSays s d b file line table work index out file line table index out at (record { desk = d; end = at })
byte_of_none d b e s (collects p f k) roomy room = absurd (file_stops d p e)
byte_of_none d b e s (asks p k q) roomy room = absurd (asks_stops d p e)
byte_of_none d b e s (stops p) roomy room = record { desk = stops p; printed = printed_none room }

-- ---- a chunk

-- the areas keep their lengths
pub record Kept (file₀ line₀ table₀ work₀ index₀ out₀ file line table work index out : List ℕ) : Type 0 where
  pub files : length file ≡ length file₀
  pub lines : length line ≡ length line₀
  pub tables : length table ≡ length table₀
  pub works : length work ≡ length work₀
  pub indices : length index ≡ length index₀
  pub outs : length out ≡ length out₀

-- so they stay long enough
pub roomy_kept : {file₀ line₀ table₀ work₀ index₀ out₀ file line table work index out : List ℕ}
    → Kept file₀ line₀ table₀ work₀ index₀ out₀ file line table work index out → Roomy file₀ line₀ table₀ work₀ index₀ → Roomy file line table work index
roomy_kept k r =
    record {
      files = omega (arith, k.files, r.files);
      lines = omega (arith, k.lines, r.lines);
      tables = omega (arith, k.tables, r.tables);
      works = omega (arith, k.works, r.works);
      indices = omega (arith, k.indices, r.indices);
    }

-- what the loop knows: the bytes taken so far, and what they printed
pub record FedSo (s : State) (chunk file line table index out₀ out : List ℕ) (d : D.Desk) (taken written : ℕ) : Type 0 where
  pub desk : DeskAt d file line table index (steps s (take taken chunk)).next
  pub printed : Printed out₀ out 0 written (steps s (take taken chunk)).prints

-- no byte is taken
pub fed_start : (s : State) (chunk : List ℕ) {file line table index : List ℕ} (out : List ℕ) (d : D.Desk) → DeskAt d file line table index s
    → FedSo s chunk file line table index out out d 0 0
fed_start s chunk out d h = record { desk = h; printed = record { area = refl; place = refl; fits = omega arith } }

-- one print behind another
printed_both : {out₀ out out' : List ℕ} {at m end : ℕ} {ps qs : List ℕ} → Printed out₀ out at m ps → Printed out out' m end qs → Printed out₀ out' at end (ps ++ qs)
printed_both {out₀} {out} {out'} {at} {m} {end} {ps} {qs} p q =
    record {
      area = q.area ∙ ap₂ (λ a k. sets a k qs) p.area p.place ∙ sym (sets_append ps qs out₀ at);
      place = omega (arith, p.place, q.place, length-append ps qs);
      fits = omega (arith, q.fits, ap length p.area ∙ length-sets out₀ at ps);
    }

-- one byte more
pub fed_more : {s : State} {chunk file line table index out₀ out file' line' table' index' out' : List ℕ} {d : D.Desk} {taken written : ℕ} (r : N.Next)
    → taken < length chunk → FedSo s chunk file line table index out₀ out d taken written
    → Reaches (step (steps s (take taken chunk)).next (get_or chunk taken 0)) file' line' table' index' out out' written r
    → FedSo s chunk file' line' table' index' out₀ out' r.desk (taken + 1) r.end
fed_more {s} {chunk} {out₀ = out₀} {file' = file'} {line'} {table'} {index'} {out'} {taken = taken} r h k n =
    let one : take (taken + 1) chunk ≡ take taken chunk ++ (get_or chunk taken 0 ∷ []) = ap (λ m. take m chunk) (add-one taken) ∙ take-suc chunk taken 0 h in
    let whole = ap (steps s) one ∙ steps_more s (take taken chunk) (get_or chunk taken 0) in
    record {
      desk = subst (λ x. DeskAt r.desk file' line' table' index' x.next) (sym whole) n.desk;
      printed = subst (λ x. Printed out₀ out' 0 r.end x.prints) (sym whole) (printed_both k.printed n.printed);
    }

-- what is done where the output area has no room for an answer
pub idle_start : (d : D.Desk) (file line table work index out : List ℕ) → Idle d file line table work index out file line table work index out (record { desk = d; taken = 0; written = 0 })
idle_start d file line table work index out =
    record { taken = refl; written = refl; desk = refl; files = refl; lines = refl; tables = refl; works = refl; indices = refl; outs = refl }

-- The loop's invariant: the areas as they were where it begins, and as they are.
pub record Feeds (chunk file₀ line₀ table₀ work₀ index₀ out₀ : List ℕ) (d₀ : D.Desk) (file line table work index out : List ℕ) (d : D.Desk) (taken written : ℕ) : Type 0 where
  pub kept : Kept file₀ line₀ table₀ work₀ index₀ out₀ file line table work index out
  pub within : taken ≤ length chunk
  pub begun : taken ≡ 0 → written ≡ 0
  pub idle : length out₀ < answer_room → Idle d₀ file₀ line₀ table₀ work₀ index₀ out₀ file line table work index out (record { desk = d; taken = taken; written = written })
  pub fed : (s : State) → DeskAt d₀ file₀ line₀ table₀ index₀ s → Roomy file₀ line₀ table₀ work₀ index₀ → FedSo s chunk file line table index out₀ out d taken written

-- where the loop begins
pub feeds_start : (chunk file line table work index out : List ℕ) (d : D.Desk) → Feeds chunk file line table work index out d file line table work index out d 0 0
feeds_start chunk file line table work index out d =
    record {
      kept = record { files = refl; lines = refl; tables = refl; works = refl; indices = refl; outs = refl };
      within = omega arith;
      begun = λ e. refl;
      idle = λ h. idle_start d file line table work index out;
      fed = λ s h roomy. fed_start s chunk out d h;
    }

module _ {chunk file₀ line₀ table₀ work₀ index₀ out₀ : List ℕ} {d₀ : D.Desk} {file line table work index out : List ℕ} {d : D.Desk} {taken written : ℕ}
    (k : Feeds chunk file₀ line₀ table₀ work₀ index₀ out₀ d₀ file line table work index out d taken written) where
  -- a byte is left where the loop goes on
  pub feeds_left : {b : Bool} → b ≡ (ltb taken (length chunk) && leb (written + answer_room) (length out₀)) → b ≡ true → taken < length chunk
  feeds_left e t = (goes_both taken (length chunk) written (length out₀) (sym e ∙ t)).0

  -- a byte
  pub feeds_more : {file' line' table' work' index' out' : List ℕ} {b : Bool} (r : N.Next)
      → b ≡ (ltb taken (length chunk) && leb (written + answer_room) (length out₀)) → b ≡ true
      → ((s : State) → ByteSays s d (get_or chunk taken 0) file line table work index out file' line' table' index' out' written r)
      → Kept file line table work index out file' line' table' work' index' out'
      → Feeds chunk file₀ line₀ table₀ work₀ index₀ out₀ d₀ file' line' table' work' index' out' r.desk (taken + 1) r.end
  feeds_more r e t byte same =
      let kept = k.kept in
      let both = goes_both taken (length chunk) written (length out₀) (sym e ∙ t) in
      record {
        kept =
            record {
              files = same.files ∙ kept.files;
              lines = same.lines ∙ kept.lines;
              tables = same.tables ∙ kept.tables;
              works = same.works ∙ kept.works;
              indices = same.indices ∙ kept.indices;
              outs = same.outs ∙ kept.outs;
            };
        within = omega (arith, both.0);
        begun = λ z. absurd (omega arith);
        idle = λ h. absurd (omega (arith, both.1));
        fed = λ s q roomy.
            let so = k.fed s q roomy in
            fed_more r both.0 so (byte (steps s (take taken chunk)).next so.desk (roomy_kept kept roomy) (omega (arith, both.1, kept.outs)));
      }

  -- the chunk's end, or no room
  pub feeds_took : {b : Bool} → b ≡ (ltb taken (length chunk) && leb (written + answer_room) (length out₀)) → b ≡ false
      → Took d₀ chunk file₀ line₀ table₀ work₀ index₀ out₀ file line table work index out (record { desk = d; taken = taken; written = written })
  feeds_took e f = go (goes_neither taken (length chunk) written (length out₀) (sym e ∙ f))
    where
      go : (length chunk ≤ taken) ⊎ (length out₀ < written + answer_room)
          → Took d₀ chunk file₀ line₀ table₀ work₀ index₀ out₀ file line table work index out (record { desk = d; taken = taken; written = written })
      go (inl h) = let w = k.within in record { within = w; whole = inl (omega (arith, h, w)); progress = λ p room. omega (arith, h, p); idle = k.idle }
      go (inr h) =
          record {
            within = k.within;
            whole = inr h;
            progress = λ p room. pos_of_ne-zero (λ z. let n = k.begun z in omega (arith, h, n, room));
            idle = k.idle;
          }

  -- and the state there
  pub feeds_end : FeedSays d₀ chunk file₀ line₀ table₀ work₀ index₀ out₀ file line table index out (record { desk = d; taken = taken; written = written })
  feeds_end s q roomy = let so = k.fed s q roomy in record { desk = so.desk; printed = so.printed }

-- ---- the end of the input

-- the file's
pub finish_file : (d : D.Desk) {file line table work index part out out' : List ℕ} {end : ℕ} → d.phase ≡ phases.File → part ≡ take d.held file
    → (Roomy file line table work index → Prints out out' 0 end (file_line (answer_of (verdict part))))
    → FinishSays d file line table work index out out' end
finish_file d e q k s (collects {bs} p f h) roomy = prints_as (ap (λ v. file_line (answer_of v)) (ap verdict q ∙ held_verdict bs h)) (k roomy)
finish_file d e q k s (asks p h x) roomy = absurd (file_asks d e p)
finish_file d e q k s (stops p) roomy = absurd (file_stops d e p)

-- no line is begun
none_begun : {held : ℕ} {line out : List ℕ} (rs : List Row) (l : List ℕ) → Holds line_room held line l → held ≡ 0 → Prints out out 0 0 (finish (asking rs l))
none_begun rs [] h e = prints_none _ 0
none_begun rs (b ∷ l) h e = absurd (omega (arith, sym e ∙ h.count))

-- nothing is printed then
pub finish_none : (d : D.Desk) {file line table work index out : List ℕ} → d.phase ≡ phases.Queries → d.held ≡ 0
    → FinishSays d file line table work index out out 0
finish_none d e n s (collects p f h) roomy = absurd (file_asks d p e)
finish_none d e n s (asks {rs} {l} p h x) roomy = none_begun rs l h n
finish_none d e n s (stops p) roomy = absurd (asks_stops d e p)

-- a line without its line feed
line_begun : {held end : ℕ} {line part out out' : List ℕ} (rs : List Row) (l : List ℕ) → Holds line_room held line l → (held ≡ 0 → ⊥) → part ≡ take held line
    → Prints out out' 0 end (answered rs part) → Prints out out' 0 end (finish (asking rs l))
line_begun rs [] h n q k = absurd (n h.count)
line_begun rs (b ∷ l) h n q k = prints_as (ap (answered rs) q ∙ held_answer rs (b ∷ l) h) k

-- it is answered
pub finish_line : (d : D.Desk) {file line table work index part out out' : List ℕ} {end : ℕ} → d.phase ≡ phases.Queries → (d.held ≡ 0 → ⊥)
    → part ≡ take d.held line
    → ((rs : List Row) → Prepared table d.types index d.isos rs → work_length ≤ length work → Prints out out' 0 end (answered rs part))
    → FinishSays d file line table work index out out' end
finish_line d e n q k s (collects p f h) roomy = absurd (file_asks d p e)
finish_line d e n q k s (asks {rs} {l} p h x) roomy = line_begun rs l h n q (k rs x roomy.works)
finish_line d e n q k s (stops p) roomy = absurd (asks_stops d e p)

-- nothing
pub finish_stopped : (d : D.Desk) {file line table work index out : List ℕ} → d.phase ≡ phases.Stopped
    → FinishSays d file line table work index out out 0
finish_stopped d e s (collects p f h) roomy = absurd (file_stops d p e)
finish_stopped d e s (asks p h x) roomy = absurd (asks_stops d p e)
finish_stopped d e s (stops p) roomy = prints_none _ 0
