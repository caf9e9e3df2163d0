-- What the two stores hold.
use Rattle.std.specs.Prelude.{ℕ, List, take}
use Rattle.readings.specs.Meaning.{Meaning}
use Rattle.stores.specs.declared.full_table.FullTable.{FullTable}
use Rattle.stores.specs.declared.row_store.Row.{Row}
use Rattle.stores.specs.declared.row_store.RowStore.{RowStore}
use Rattle.stores.specs.Rows.{of_rows}
use Rattle.stores.specs.Words.{table}

abbrev pub words_of : FullTable → List ℕ
words_of s = s.words.now

abbrev pub table_of : FullTable → Meaning
table_of s = table s.extent.points s.extent.days (words_of s)

abbrev pub used_rows : RowStore → List Row
used_rows s = take s.used s.rows.now

abbrev pub rows_of : RowStore → Meaning
rows_of s = of_rows s.extent.points s.extent.days (used_rows s)
