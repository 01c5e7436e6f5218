-- What each check of a table leaves known of its bytes.
use Rattle.std.specs.Prelude.{◌≡◌, ℕ, ◌+◌, ◌*◌, ◌<◌, ◌≤◌, ◌≢◌, ◌↔◌, List, [], length, Some, None, Option, MatchOption, Result, MatchResult, slice_index_or}
use Rattle.systems.specs.StoredTable.{count_of, first_of, records_of, role_byte, head_of, event_of, target_of, next_of, role_number, HasRecord}
use Rattle.systems.specs.declared.system.Role.{Role}
use Rattle.systems.specs.declared.system.Role.TheVariants.{Absent}
use Rattle.systems.specs.TableFaults.{Numbers, RecordFaulty, FirstTableFault, record_number, record_place}
use Rattle.systems.specs.declared.stored_table.fault.RecordFault.{RecordFault}
use Rattle.systems.specs.declared.stored_table.fault.TableFault.{TableFault}
use Rattle.systems.specs.declared.stored_table.fault.TableFault.TheVariants.{Record}
use Rattle.systems.specs.declared.stored_table.table.Record.{Record as Fields}

-- after the header: the bytes are as long as their counts say
pub record Sized (bs : List ℕ) : Type 0 where
  pub some : 1 ≤ count_of bs
  pub most : count_of bs ≤ 256
  pub begins : first_of bs < count_of bs
  pub few : records_of bs ≤ 8192
  pub long : length bs ≡ 70 + 2 * count_of bs + 6 * records_of bs

-- after the roles
abbrev pub RolesKnown : List ℕ → Type 0
RolesKnown bs = (e : ℕ) → e < 64 → role_byte bs e ≤ 3

-- after the heads
abbrev pub HeadsKnown : List ℕ → Type 0
HeadsKnown bs = (s : ℕ) → s < count_of bs → head_of bs s ≤ records_of bs

-- before the records: all else is checked
pub record Framed (bs : List ℕ) : Type 0 where
  pub sized : Sized bs
  pub roles : RolesKnown bs
  pub heads : HeadsKnown bs

-- after the checks of record k
pub record RecordSound (bs : List ℕ) (k : ℕ) : Type 0 where
  pub event : event_of bs k < 64
  pub role : role_byte bs (event_of bs k) ≢ 0
  pub target : target_of bs k < count_of bs
  pub next : next_of bs k ≤ records_of bs
  pub rising : 1 ≤ next_of bs k → event_of bs k < event_of bs (next_of bs k)

-- after the checks of the records up to n
abbrev pub RecordsSound : List ℕ → ℕ → Type 0
RecordsSound bs n = (k : ℕ) → 1 ≤ k → k ≤ n → RecordSound bs k

-- after all checks
pub record Sound (bs : List ℕ) : Type 0 where
  pub framed : Framed bs
  pub records : RecordsSound bs (records_of bs)

-- what a field with the number w names: record w, or none if w is zero
abbrev pub Linked : ℕ → Option ℕ → Type 0
Linked w r = MatchOption r (w ≡ 0) (λ k. (k ≡ w) × (1 ≤ w))

-- the fields of record k
pub record FieldsOf (bs : List ℕ) (k : ℕ) (r : Fields) : Type 0 where
  pub event : r.event ≡ event_of bs k
  pub target : r.target ≡ target_of bs k
  pub next : Linked (next_of bs k) r.next

-- what is found under number k: its record, or that there is none
abbrev pub RecordFound : List ℕ → ℕ → Option Fields → Type 0
RecordFound bs k r = MatchOption r (Numbers bs k → ⊥) (λ f. Numbers bs k × FieldsOf bs k f)

-- f is a fault of record k, which has no fault of a lower number
pub record FirstOfRecord (bs : List ℕ) (k : ℕ) (f : RecordFault) : Type 0 where
  pub place : record_place f ≡ k
  pub there : RecordFaulty bs f
  pub none_before : (g : RecordFault) → record_place g ≡ k → record_number g < record_number f → RecordFaulty bs g → ⊥

-- what a stage of the checks answers: that its facts are known, or the first fault
abbrev pub Passes : (List ℕ → Type 0) → List ℕ → Result (Unit {0}) TableFault → Type 0
Passes Known bs r = MatchResult r (λ _. Known bs) (FirstTableFault bs)

abbrev pub RecordPasses : List ℕ → ℕ → Result (Unit {0}) RecordFault → Type 0
RecordPasses bs k r = MatchResult r (λ _. RecordSound bs k) (FirstOfRecord bs k)

abbrev pub RecordsPass : List ℕ → Result (Unit {0}) RecordFault → Type 0
RecordsPass bs r = MatchResult r (λ _. RecordsSound bs (records_of bs)) (λ f. FirstTableFault bs (Record f))

-- What taking up reads of sound bytes, list by list.

-- the list has the role of each event
abbrev pub RolesRead : List ℕ → List Role → Type 0
RolesRead bs roles = (e : ℕ) → e < 64 → role_number (slice_index_or roles e Absent) ≡ role_byte bs e

-- no step stands in the row
abbrev pub RowEmpty : List (Option ℕ) → Type 0
RowEmpty row = (e : ℕ) → slice_index_or row e None ≡ None

-- the row has the steps of state s as its chain has them, and none if there is no state s
abbrev pub RowRead : List ℕ → ℕ → List (Option ℕ) → Type 0
RowRead bs s row = (e : ℕ) → e < 64 → (t : ℕ) → (slice_index_or row e None ≡ Some t) ↔ ((s < count_of bs) × HasRecord bs s e t)

-- the rows have the steps of every state
abbrev pub RowsRead : List ℕ → List (List (Option ℕ)) → Type 0
RowsRead bs steps = (s : ℕ) → RowRead bs s (slice_index_or steps s [])
