-- Walking a chain, and writing its steps down.
use Rattle.std.proofs.Common.{◌≡◌, ℕ, ◌-◌, ◌<◌, ◌≤◌, ◌≢◌, ◌⊎◌, ◌↔◌, List, length, get_or, set, Some, None, Option, sym, refl, ap, ◌∙◌, subst, inl, inr, arith, get_or-set_other, get_or-set_same}
use Rattle.std.proofs.lemmas.Bool.{cases_eq, cases_lt, lt-ltb, le-ltb}
use Rattle.std.proofs.lemmas.Bool.Decides.{nat_tests}
use Rattle.systems.specs.StoredTable.{count_of, records_of, chain_begin, head_of, event_of, target_of, next_of, OnChain, here, further, HasRecord}
use Rattle.systems.specs.TableFaults.{Numbers}
use Rattle.systems.specs.TableChecks.{Sound, RecordSound, RowEmpty, RowRead}
use Rattle.std.proofs.lemmas.Option.{same_Some, none-some}

chain_more : (bs : List ℕ) (k j : ℕ) → OnChain bs k j → 1 ≤ next_of bs j → OnChain bs k (next_of bs j)
chain_more bs k j (here m p) h = further m (next_of bs m) p (here (next_of bs m) h)
chain_more bs k j (further m i p c) h = further m (next_of bs i) p (chain_more bs (next_of bs m) i c h)

-- what a chain's first record leaves
chain_cases : (bs : List ℕ) (k j : ℕ) → OnChain bs k j → (j ≡ k) ⊎ OnChain bs (next_of bs k) j
chain_cases bs k j (here m p) = inl refl
chain_cases bs k j (further m i p c) = inr c

chain_positive : (bs : List ℕ) (k j : ℕ) → OnChain bs k j → 1 ≤ k
chain_positive bs k j (here m p) = p
chain_positive bs k j (further m i p c) = p

-- a record of the chain that begins at record b has event e and target t
abbrev pub Has : List ℕ → ℕ → ℕ → ℕ → Type 0
Has bs b e t = (j : ℕ) × (OnChain bs b j × ((event_of bs j ≡ e) × (target_of bs j ≡ t)))

-- events rise along a chain, so that this many records can follow at most
abbrev pub left : List ℕ → Option ℕ → ℕ
left bs None = 0
left bs (Some at) = 64 - event_of bs at

-- the step of record j is written down, and its event is below that of the record where the walk stands
pub record Written (bs : List ℕ) (at : ℕ) (row : List (Option ℕ)) (j : ℕ) : Type 0 where
  pub step : get_or row (event_of bs j) None ≡ Some (target_of bs j)
  pub passed : 1 ≤ at → event_of bs j < event_of bs at

-- a walk along the chain that begins at record b stands at record `at`, or past the end where that is zero
pub record Walked (bs : List ℕ) (b at : ℕ) (row : List (Option ℕ)) : Type 0 where
  pub most : at ≤ records_of bs
  pub on : 1 ≤ at → OnChain bs b at
  pub found : (e t : ℕ) → e < 64 → get_or row e None ≡ Some t → Has bs b e t
  pub all : (j : ℕ) → OnChain bs b j → OnChain bs at j ⊎ Written bs at row j

pub walk_none : (bs : List ℕ) (b : ℕ) (row : List (Option ℕ)) → b ≤ records_of bs → RowEmpty row → Walked bs b b row
walk_none bs b row h empty =
    record {
      most = h;
      on = here b;
      found = λ e t l p. absurd (none-some t (sym (empty e) ∙ p));
      all = λ j c. inl c;
    }

module _ (bs : List ℕ) (sound : Sound bs) (b : ℕ) where
  module _ (at : ℕ) (row : List (Option ℕ)) (long : length row ≡ 64) (w : Walked bs b at row) (low : 1 ≤ at) where
    here_sound : RecordSound bs at
    here_sound = sound.records at low w.most

    -- the row with the step of the record
    abbrev after : List (Option ℕ)
    after = set row (event_of bs at) (Some (target_of bs at))

    same_place : get_or after (event_of bs at) None ≡ Some (target_of bs at)
    same_place = let lt : event_of bs at < length row = omega (arith, here_sound.event) in rw get_or-set_same

    other_place : (e : ℕ) → e ≢ event_of bs at → get_or after e None ≡ get_or row e None
    other_place e ne = rw get_or-set_other

    found_more : (e t : ℕ) → e < 64 → get_or after e None ≡ Some t → Has bs b e t
    found_more e t h p =
        elim (cases_eq e (event_of bs at)) [
          | inl q ↦
              let v : Some (target_of bs at) ≡ Some t = sym same_place ∙ ap (λ (n : ℕ). get_or after n None) (sym q) ∙ p in
              (at, (w.on low, (sym q, same_Some (target_of bs at) t v)))
          | inr ne ↦ w.found e t h (sym (other_place e ne) ∙ p)
        ]

    all_more : (j : ℕ) → OnChain bs at j ⊎ Written bs at row j → OnChain bs (next_of bs at) j ⊎ Written bs (next_of bs at) after j
    all_more j (inl c) =
        elim (chain_cases bs at j c) [
          | inl q ↦
              inr (subst (λ (n : ℕ). Written bs (next_of bs at) after n) (sym q) (record { step = same_place; passed = here_sound.rising }))
          | inr d ↦ inl d
        ]
    all_more j (inr x) =
        let lower = x.passed low in
        inr (record {
          step = other_place (event_of bs j) (λ q. omega (arith, q, lower)) ∙ x.step;
          passed = λ h. omega (arith, lower, here_sound.rising h);
        })

    walked : Walked bs b (next_of bs at) after
    walked =
        record { most = here_sound.next; on = chain_more bs b at (w.on low); found = found_more; all = λ j c. all_more j (w.all j c) }

    pub walk_more : (event target : ℕ) → event ≡ event_of bs at → target ≡ target_of bs at
        → Walked bs b (next_of bs at) (set row event (Some target))
    walk_more event target p q = rw (p, q) walked

  -- where nothing is left of the chain, the row has its steps
  walk_all : (at : ℕ) (row : List (Option ℕ)) → Walked bs b at row → (Numbers bs at → ⊥)
      → (e : ℕ) → e < 64 → (t : ℕ) → (get_or row e None ≡ Some t) ↔ Has bs b e t
  walk_all at row w past e h t = (w.found e t h, back)
    where
      back : Has bs b e t → get_or row e None ≡ Some t
      back (j, (c, (p, q))) =
          elim (w.all j c) [
            | inl d ↦ absurd (past (chain_positive bs at j d, w.most))
            | inr x ↦ ap (λ (n : ℕ). get_or row n None) (sym p) ∙ x.step ∙ ap (λ (n : ℕ). Some n) q
          ]

module _ (bs : List ℕ) (sound : Sound bs) (s : ℕ) where
  pub begin_most : chain_begin bs s ≤ records_of bs
  begin_most = let h = sound.framed.heads s in grind (arith, nat_tests)

  pub row_read : (at : ℕ) (row : List (Option ℕ)) → Walked bs (chain_begin bs s) at row → (Numbers bs at → ⊥) → RowRead bs s row
  row_read at row w past e h t = (there, back)
    where
      both : (get_or row e None ≡ Some t) ↔ Has bs (chain_begin bs s) e t
      both = walk_all bs sound (chain_begin bs s) at row w past e h t

      there : get_or row e None ≡ Some t → (s < count_of bs) × HasRecord bs s e t
      there p =
          let (j, (c, q)) = both.0 p in
          elim (cases_lt s (count_of bs)) [
            | inl l ↦ (l, (j, (subst (λ (k : ℕ). OnChain bs k j) (begin_is l) c, q)))
            | inr g ↦ absurd (omega (arith, chain_positive bs (chain_begin bs s) j c, begin_none g))
          ]
        where
          begin_is : s < count_of bs → chain_begin bs s ≡ head_of bs s
          begin_is l = rw (lt-ltb s (count_of bs) l) refl

          begin_none : count_of bs ≤ s → chain_begin bs s ≡ 0
          begin_none g = rw (le-ltb s (count_of bs) g) refl

      back : (s < count_of bs) × HasRecord bs s e t → get_or row e None ≡ Some t
      back (l, r) = both.1 (subst (λ (k : ℕ). Has bs k e t) (sym (rw (lt-ltb s (count_of bs) l) refl)) r)
