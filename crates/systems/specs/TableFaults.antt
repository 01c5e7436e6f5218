-- What can be wrong with a table's bytes: each fault's number, place and condition.
use Rattle.std.specs.Prelude.{◌≡◌, ℕ, ◌+◌, ◌*◌, ◌<◌, ◌≤◌, ◌≢◌, ◌⊎◌, List, length, Result, MatchResult}
use Rattle.systems.specs.Faults.{Before, First, Checked, TakenUp}
use Rattle.systems.specs.Machine.{Machine}
use Rattle.systems.specs.StoredTable.{count_of, first_of, records_of, role_byte, head_of, event_of, target_of, next_of, Means}
use Rattle.systems.specs.declared.stored_table.fault.RecordFault.{RecordFault}
use Rattle.systems.specs.declared.stored_table.fault.RecordFault.TheVariants.{Event, Target, Next}
use Rattle.systems.specs.declared.stored_table.fault.TableFault.{TableFault}
use Rattle.systems.specs.declared.stored_table.fault.TableFault.TheVariants.{Short, Count, First as FirstState, Records, Length, Role, Head, Record}

abbrev pub record_number : RecordFault → ℕ
record_number (Event k) = 12
record_number (Target k) = 13
record_number (Next k) = 14

-- the record's number
abbrev pub record_place : RecordFault → ℕ
record_place (Event k) = k
record_place (Target k) = k
record_place (Next k) = k

abbrev pub table_number : TableFault → ℕ
table_number Short = 5
table_number Count = 6
table_number FirstState = 7
table_number Records = 8
table_number Length = 9
table_number (Role e) = 10
table_number (Head s) = 11
table_number (Record f) = record_number f

-- the event, state or record; zero where a fault has none
abbrev pub table_place : TableFault → ℕ
table_place Short = 0
table_place Count = 0
table_place FirstState = 0
table_place Records = 0
table_place Length = 0
table_place (Role e) = e
table_place (Head s) = s
table_place (Record f) = record_place f

-- the bytes number a record k
abbrev pub Numbers : List ℕ → ℕ → Type 0
Numbers bs k = (1 ≤ k) × (k ≤ records_of bs)

-- the record of the fault's number has the fault
abbrev pub RecordFaulty : List ℕ → RecordFault → Type 0
RecordFaulty bs (Event k) = Numbers bs k × ((63 < event_of bs k) ⊎ (role_byte bs (event_of bs k) ≡ 0))
RecordFaulty bs (Target k) = Numbers bs k × (count_of bs ≤ target_of bs k)
RecordFaulty bs (Next k) =
    Numbers bs k × ((records_of bs < next_of bs k) ⊎ ((1 ≤ next_of bs k) × (event_of bs (next_of bs k) ≤ event_of bs k)))

-- the bytes have the fault
abbrev pub TableFaulty : List ℕ → TableFault → Type 0
TableFaulty bs Short = length bs < 70
TableFaulty bs Count = (count_of bs ≡ 0) ⊎ (256 < count_of bs)
TableFaulty bs FirstState = count_of bs ≤ first_of bs
TableFaulty bs Records = 8192 < records_of bs
TableFaulty bs Length = length bs ≢ 70 + 2 * count_of bs + 6 * records_of bs
TableFaulty bs (Role e) = (e < 64) × (3 < role_byte bs e)
TableFaulty bs (Head s) = (s < count_of bs) × (records_of bs < head_of bs s)
TableFaulty bs (Record f) = RecordFaulty bs f

abbrev pub TableBefore : TableFault → TableFault → Type 0
TableBefore = Before table_number table_place

abbrev pub FirstTableFault : List ℕ → TableFault → Type 0
FirstTableFault bs = First (TableFaulty bs) TableBefore

-- What parsing a table gives: a view of just these bytes, or their first fault. (That a view has no fault left stands in its own type.)
abbrev pub TableParsed : {T : Type 0} → (T → List ℕ) → List ℕ → Result T TableFault → Type 0
TableParsed bytes_of bs r = MatchResult r (λ t. bytes_of t ≡ bs) (FirstTableFault bs)

-- what the check of a table answers
abbrev pub TableChecked : List ℕ → Result (Unit {0}) TableFault → Type 0
TableChecked bs = Checked (TableFaulty bs) TableBefore

-- what taking up a table gives: the machine that its bytes mean, or the bare one where they have a fault
abbrev pub TableTakenUp : List ℕ → Machine → Type 0
TableTakenUp bs = TakenUp (TableFaulty bs) (Means bs)
