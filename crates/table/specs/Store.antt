-- What a table shows to the user of a store.
use Rattle.store.specs.Meaning.{Shown}
use Rattle.table.specs.declared.Table.{Table}
use Rattle.table.specs.Shows.{showing}

abbrev pub shows : Table → Shown
shows d = showing d.n d.list
