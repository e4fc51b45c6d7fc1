use Rattle.list_entries.proofs.Finding.{stored}
use Rattle.list_entries.proofs.store_entry.Goals as goal

pub returns : goal.returns
returns c = stored _ _ _ _ _ c.narrow.ensures c.store.ensures c.narrow-2.ensures c.store-2.ensures c.narrow-3.ensures c.store-3.ensures
