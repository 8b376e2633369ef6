use Rattle.std.proofs.Common.{refl}
use Rattle.ad_symbolic.specs.AddressSpace.{loaded_value, stored_value}
use Rattle.ad_symbolic.proofs.laws.law_worked_accesses.Goals as goal

pub returns-clause-address : goal.returns-clause-address
unfolding loaded_value stored_value
returns-clause-address c = refl

pub returns-clause-local_word : goal.returns-clause-local_word
unfolding loaded_value stored_value
returns-clause-local_word c = refl

pub returns-clause-half_an_address : goal.returns-clause-half_an_address
unfolding loaded_value stored_value
returns-clause-half_an_address c = refl

pub returns-clause-beside_a_number : goal.returns-clause-beside_a_number
unfolding loaded_value stored_value
returns-clause-beside_a_number c = refl

pub returns-clause-two_addresses : goal.returns-clause-two_addresses
unfolding loaded_value stored_value
returns-clause-two_addresses c = refl

pub returns-clause-number : goal.returns-clause-number
unfolding loaded_value stored_value
returns-clause-number c = refl

pub returns-clause-with_sign : goal.returns-clause-with_sign
unfolding loaded_value stored_value
returns-clause-with_sign c = refl

pub returns-clause-without_sign : goal.returns-clause-without_sign
unfolding loaded_value stored_value
returns-clause-without_sign c = refl

pub returns-clause-stored : goal.returns-clause-stored
unfolding loaded_value stored_value
returns-clause-stored c = refl

pub returns-clause-denied : goal.returns-clause-denied
unfolding loaded_value stored_value
returns-clause-denied c = refl

pub returns-clause-misaligned : goal.returns-clause-misaligned
unfolding loaded_value stored_value
returns-clause-misaligned c = refl

pub returns-clause-behind : goal.returns-clause-behind
unfolding loaded_value stored_value
returns-clause-behind c = refl

pub returns-clause-before : goal.returns-clause-before
unfolding loaded_value stored_value
returns-clause-before c = refl

pub returns-clause-a_page_behind : goal.returns-clause-a_page_behind
unfolding loaded_value stored_value
returns-clause-a_page_behind c = refl

pub returns-clause-below_all_places : goal.returns-clause-below_all_places
unfolding loaded_value stored_value
returns-clause-below_all_places c = refl

pub returns-clause-among_places : goal.returns-clause-among_places
unfolding loaded_value stored_value
returns-clause-among_places c = refl
