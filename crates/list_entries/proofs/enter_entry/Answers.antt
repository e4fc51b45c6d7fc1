use Rattle.std.proofs.Common.{inl, inr}
use Rattle.list_entries.proofs.Tracking.{enters_there, enters_full, enters_new}
use Rattle.list_entries.proofs.enter_entry.Goals as goal

pub returns-then-n-to : goal.returns-then-n-to
returns-then-n-to c =
    elim c.then-n-to.either [
      | inl there ↦ enters_there _ _ _ _ _ _ c.find_entry-n.ensures there
      | inr full ↦ enters_full _ _ _ _ _ _ c.find_entry-n.ensures full.1
    ]

pub returns : goal.returns
returns c = enters_new _ _ _ _ _ _ c.find_entry-n.ensures c.if-n-to.false c.if-to-ge-MAX_ENTRIES.false c.store_entry.ensures
