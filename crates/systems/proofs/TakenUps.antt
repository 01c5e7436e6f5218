-- What sound bytes mean, and that it is a lawful system.
use Rattle.std.proofs.Common.{◌≡◌, ℕ, ◌<◌, ◌≤◌, true, ◌↔◌, List, get_or, Some, None, Option, sym, refl, ap, ◌∙◌, inl, inr, arith}
use Rattle.std.proofs.lemmas.Bool.{cases_lt, lt-ltb, cond_below, cond_above}
use Rattle.std.proofs.lemmas.Option.{none-some}
use Rattle.systems.specs.Flat.{step_lawful, step_at, StepsLawful}
use Rattle.systems.specs.StoredTable.{count_of, first_of, records_of, role_byte, head_of, next_of, OnChain, here, further, HasRecord, role_number, Means}
use Rattle.systems.specs.TableChecks.{RecordSound, Sound, RolesRead, RowsRead}
use Rattle.systems.specs.declared.system.Role.{Role}
use Rattle.systems.specs.declared.system.Role.TheVariants.{Absent}
use Rattle.systems.proofs.Machines.{is_present, upto}

module _ (bs : List ℕ) (sound : Sound bs) where
  chain_sound : (k j : ℕ) → k ≤ records_of bs → OnChain bs k j → RecordSound bs j
  chain_sound k j h (here m p) = sound.records m p h
  chain_sound k j h (further m i p c) = chain_sound (next_of bs m) i (sound.records m p h).next c

  module _ (roles : List Role) (known : RolesRead bs roles) (steps : List (List (Option ℕ))) (read : RowsRead bs steps) where
    lawful_at : (s e : ℕ) → e < 64 → (o : Option ℕ) → step_at steps s e ≡ o → step_lawful (count_of bs) s (get_or roles e Absent) o ≡ true
    lawful_at s e h None p = refl
    lawful_at s e h (Some t) p =
        let (l, (j, (c, (q, r)))) = (read s e h t).0 p in
        let x = chain_sound (head_of bs s) j (sound.framed.heads s l) c in
        let below : t < count_of bs = omega (arith, x.target, r) in
        let role : get_or roles e Absent ≡ Absent → ⊥ =
        λ a. x.role (ap (role_byte bs) q ∙ sym (known e h) ∙ ap role_number a) in
        rw (lt-ltb s (count_of bs) l, lt-ltb t (count_of bs) below, is_present (get_or roles e Absent) role) refl

    pub read_lawful : StepsLawful (count_of bs) roles steps
    read_lawful s e h = lawful_at s e h (step_at steps s e) refl

    abbrev read_role : ℕ → Role
    read_role = upto 64 (λ e. get_or roles e Absent) Absent

    abbrev read_step : ℕ → ℕ → Option ℕ
    read_step s = upto 64 (λ e. step_at steps s e) None

    -- a step is that of a record of the state's chain
    step_is : (s e t : ℕ) → (read_step s e ≡ Some t) ↔ ((s < count_of bs) × HasRecord bs s e t)
    step_is s e t = (there, back)
      where
        there : read_step s e ≡ Some t → (s < count_of bs) × HasRecord bs s e t
        there p =
            elim (cases_lt e 64) [
              | inl h ↦ (read s e h t).0 (cond_below e 64 (step_at steps s e) None h ∙ p)
              | inr h ↦ absurd (none-some t (cond_above e 64 (step_at steps s e) None None h refl ∙ p))
            ]

        back : (s < count_of bs) × HasRecord bs s e t → read_step s e ≡ Some t
        back (l, (j, (c, (q, r)))) =
            let x = chain_sound (head_of bs s) j (sound.framed.heads s l) c in
            let h : e < 64 = omega (arith, x.event, q) in
            sym (cond_below e 64 (step_at steps s e) None h) ∙ (read s e h t).1 (l, (j, (c, (q, r))))

    pub read_means : (count first : ℕ) → count ≡ count_of bs → first ≡ first_of bs
        → Means bs (record { count = count; first = first; role = read_role; step = read_step })
    read_means count first p q =
        record {
          count = p;
          first = q;
          role = λ e h. ap role_number (sym (cond_below e 64 (get_or roles e Absent) Absent h)) ∙ known e h;
          no_role = λ e h. sym (cond_above e 64 (get_or roles e Absent) Absent Absent h refl);
          step = λ s e t l. (λ p. ((step_is s e t).0 p).1, λ r. (step_is s e t).1 (l, r));
          no_step = λ s e t g p. omega (arith, ((step_is s e t).0 p).0);
        }
