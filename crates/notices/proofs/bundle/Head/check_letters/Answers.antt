use Rattle.std.proofs.Common.{◌≡◌, ℕ, ◌<◌, rules, subst, arith}
use Rattle.std.proofs.lemmas.Iterator.{IsFirst-from_position, YieldsList-from_slice}
use Rattle.unwinding.specs.Classes.{letter_of}
use Rattle.unwinding.specs.declared.class.Class.{Class}
use Rattle.notices.proofs.BundleFirsts.{first_of_letters}
use Rattle.notices.proofs.bundle.Head.check_letters.Goals as goal

abbrev Named : ℕ → Type 0
Named x = (k : Class) × (letter_of k ≡ x)

pub returns-in-Some : goal.returns-in-Some
returns-in-Some c =
    let found =
    IsFirst-from_position _ _ _ (λ x. Named x → ⊥) Named c.position.ensures.ran (YieldsList-from_slice c.letters.result.now cc)
    (λ x q k. search rules) (λ x q k. search rules) in
    let value = c.letters.ensures.value in
    let (below, there, before) = rw c.in-Some.is at found in
    let h : c.in-Some.e < 64 = omega (arith, below, c.letters.ensures.length) in
    first_of_letters c.args.self.now.bytes.now c.args.self.now.long c.in-Some.e h
    (subst (λ (x : ℕ). Named x → ⊥) (value c.in-Some.e h) (there 0))
    (λ d l. subst Named (value d (omega arith)) (before d 0 (omega arith) l))

pub returns-in-None : goal.returns-in-None
returns-in-None c e h =
    let found =
    IsFirst-from_position _ _ _ (λ x. Named x → ⊥) Named c.position.ensures.ran (YieldsList-from_slice c.letters.result.now cc)
    (λ x q k. search rules) (λ x q k. search rules) in
    let all = rw c.in-None.is at found in
    subst Named (c.letters.ensures.value e h) (all e 0 (omega arith) (omega (arith, c.letters.ensures.length)))
