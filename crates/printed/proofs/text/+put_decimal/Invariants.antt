-- The call for the digits before has one digit less to go.
use Rattle.printed.proofs.text.+put_decimal.Given as goal

abbrev pub decreases-put_decimal : goal.decreases-put_decimal
decreases-put_decimal l = l.most
