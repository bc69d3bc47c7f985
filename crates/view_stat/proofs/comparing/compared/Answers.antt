use Rattle.view_stat.proofs.comparing.compared.Goals as goal

pub returns-in-Alone : goal.returns-in-Alone
returns-in-Alone c = rw c.in-Alone.is c.print_comparison.ensures
