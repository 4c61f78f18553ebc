-- The phases by their places.
use Rattle.world_state.proofs.Common.{◌≡◌, ◌<◌, ◌==◌, ◌+◌, ℕ, zero, suc, Bool, true, false, refl, sym, ap, ◌∙◌, arith, nat_tests, Phase, Build, Connect, EndOfElaboration, StartOfSimulation, Run, Extract, Check, Report, Final, PreReset, Reset, PostReset, PreConfigure, Configure, PostConfigure, PreMain, Main, PostMain, PreShutdown, Shutdown, PostShutdown, phase_number, same_phase, is_task, place_in}

-- what holds at the place of each phase holds at each place
pub at-place : (P : ℕ → Type 0) → ((phase : Phase) → P (place_in phase)) → (n : ℕ) → n < 13 → P n
at-place P all zero low = all Run
at-place P all (suc zero) low = all PreReset
at-place P all (suc (suc zero)) low = all Reset
at-place P all (suc (suc (suc zero))) low = all PostReset
at-place P all (suc (suc (suc (suc zero)))) low = all PreConfigure
at-place P all (suc (suc (suc (suc (suc zero))))) low = all Configure
at-place P all (suc (suc (suc (suc (suc (suc zero)))))) low = all PostConfigure
at-place P all (suc (suc (suc (suc (suc (suc (suc zero))))))) low = all PreMain
at-place P all (suc (suc (suc (suc (suc (suc (suc (suc zero)))))))) low = all Main
at-place P all (suc (suc (suc (suc (suc (suc (suc (suc (suc zero))))))))) low = all PostMain
at-place P all (suc (suc (suc (suc (suc (suc (suc (suc (suc (suc zero)))))))))) low = all PreShutdown
at-place P all (suc (suc (suc (suc (suc (suc (suc (suc (suc (suc (suc zero))))))))))) low = all Shutdown
at-place P all (suc (suc (suc (suc (suc (suc (suc (suc (suc (suc (suc (suc zero)))))))))))) low = all PostShutdown
at-place P all (suc (suc (suc (suc (suc (suc (suc (suc (suc (suc (suc (suc (suc n))))))))))))) low = absurd (omega (arith, low))

pub within : (phase : Phase) → place_in phase < 13
within Build = omega arith
within Connect = omega arith
within EndOfElaboration = omega arith
within StartOfSimulation = omega arith
within Run = omega arith
within Extract = omega arith
within Check = omega arith
within Report = omega arith
within Final = omega arith
within PreReset = omega arith
within Reset = omega arith
within PostReset = omega arith
within PreConfigure = omega arith
within Configure = omega arith
within PostConfigure = omega arith
within PreMain = omega arith
within Main = omega arith
within PostMain = omega arith
within PreShutdown = omega arith
within Shutdown = omega arith
within PostShutdown = omega arith

-- what holds of the phases that take time holds at each place
pub of-each : (P : ℕ → Type 0) → ((phase : Phase) → is_task phase ≡ true → P (place_in phase)) → (phase : Phase) → P (place_in phase)
of-each P all Build = all Run refl
of-each P all Connect = all Run refl
of-each P all EndOfElaboration = all Run refl
of-each P all StartOfSimulation = all Run refl
of-each P all Run = all Run refl
of-each P all Extract = all Run refl
of-each P all Check = all Run refl
of-each P all Report = all Run refl
of-each P all Final = all Run refl
of-each P all PreReset = all PreReset refl
of-each P all Reset = all Reset refl
of-each P all PostReset = all PostReset refl
of-each P all PreConfigure = all PreConfigure refl
of-each P all Configure = all Configure refl
of-each P all PostConfigure = all PostConfigure refl
of-each P all PreMain = all PreMain refl
of-each P all Main = all Main refl
of-each P all PostMain = all PostMain refl
of-each P all PreShutdown = all PreShutdown refl
of-each P all Shutdown = all Shutdown refl
of-each P all PostShutdown = all PostShutdown refl

-- two phases that take time have two places
pub parted : (a b : Phase) → is_task a ≡ true → is_task b ≡ true → same_phase a b ≡ false → (place_in a == place_in b) ≡ false
parted a b one other apart = tested (place_in a == place_in b) refl
  where
    number : ℕ → ℕ
    number zero = 4
    number (suc n) = n + 9

    numbered : (phase : Phase) → is_task phase ≡ true → number (place_in phase) ≡ phase_number phase
    numbered Build task = cc
    numbered Connect task = cc
    numbered EndOfElaboration task = cc
    numbered StartOfSimulation task = cc
    numbered Run task = refl
    numbered Extract task = cc
    numbered Check task = cc
    numbered Report task = cc
    numbered Final task = cc
    numbered PreReset task = refl
    numbered Reset task = refl
    numbered PostReset task = refl
    numbered PreConfigure task = refl
    numbered Configure task = refl
    numbered PostConfigure task = refl
    numbered PreMain task = refl
    numbered Main task = refl
    numbered PostMain task = refl
    numbered PreShutdown task = refl
    numbered Shutdown task = refl
    numbered PostShutdown task = refl

    tested : (t : Bool) → (place_in a == place_in b) ≡ t → t ≡ false
    tested false is = refl
    tested true is =
        let places : place_in a ≡ place_in b = grind (arith, nat_tests, is) in
        let numbers : phase_number a ≡ phase_number b = sym (numbered a one) ∙ ap number places ∙ numbered b other in
        let same : same_phase a b ≡ true = grind (arith, nat_tests, numbers) in
        cc
