-- Taking one command after the other. Assumes nothing.
use Rattle.std.proofs.Common.{◌≡◌, ℕ, ◌+◌, List, [], drop, Some, None, Ok, Err, Option, Result, sym, refl, ap, ◌∙◌, add-zero}
use Rattle.terms.specs.declared.Form.TheVariants.{Rules}
use Rattle.grammar.specs.declared.commands.Command.{Command}
use Rattle.grammar.specs.declared.faults.CommandFault.{CommandFault}
use Rattle.grammar.specs.TermCommands.{Commands, end, unfit, next, commands}
use Rattle.reading.specs.Taking.{first_command, size, taken_size}
use Rattle.reading.proofs.Passing.{took, at_front}
use Rattle.notation.specs.Commands.{Due, text}
use Rattle.notation.specs.Writing.{Takes}

-- the command of a result
abbrev pub known : Result (Option Command) CommandFault → Option Command
known (Ok o) = o
known (Err e) = None

none_left : (p q : ℕ) (bs cs : List ℕ) (left : Commands) → commands Rules p bs ≡ left → ((d : Due) → text d left ≡ []) → cs ≡ drop 0 bs → q ≡ p + 0 → Takes (commands Rules p bs) None (commands Rules q cs)
none_left p q bs cs left e n b k =
    let same : commands Rules q cs ≡ left = ap (λ l. commands Rules q l) b ∙ ap (λ m. commands Rules m bs) (k ∙ add-zero p) ∙ e in
    (record { none = λ d. ap (text d) e ∙ n d }, record { none = λ d. ap (text d) same ∙ n d })

pub takes : (p q : ℕ) (bs cs : List ℕ) (r : Result (Option Command) CommandFault) → r ≡ first_command Rules p bs
    → cs ≡ drop (taken_size Rules r) bs → q ≡ p + taken_size Rules r → Takes (commands Rules p bs) (known r) (commands Rules q cs)
takes p q bs cs (Ok (Some c)) e b k =
    record {
      place = p;
      front =
          (took Rules p bs (Some c) c q cs refl e b k).front.is
          ∙ sym (ap (λ n. next p c (commands Rules n cs)) k ∙ ap (λ l. next p c (commands Rules (p + size Rules c) l)) b);
    }
takes p q bs cs (Ok None) e b k = none_left p q bs cs (end p) (at_front Rules p bs (Ok None) e) (λ d. refl) b k
takes p q bs cs (Err x) e b k = none_left p q bs cs (unfit x) (at_front Rules p bs (Err x) e) (λ d. refl) b k
