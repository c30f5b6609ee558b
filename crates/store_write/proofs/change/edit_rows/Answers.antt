use Rattle.store_write.proofs.change.edit_rows.Goals as goal

pub returns-in_ok-replace_holdings-in-Hold-clause-done : goal.returns-in_ok-replace_holdings-in-Hold-clause-done
returns-in_ok-replace_holdings-in-Hold-clause-done g c clean = rw c.in-Hold.is (rw (c.deref.ensures.value, c.deref-in-Hold.ensures.value, c.deref-in-Hold-2.ensures.value) at (c.in_ok-replace_holdings-in-Hold.ensures.done clean))

pub returns-in_ok-put_new_auths-in-Create-clause-done : goal.returns-in_ok-put_new_auths-in-Create-clause-done
returns-in_ok-put_new_auths-in-Create-clause-done g c clean = rw c.in-Create.is (rw c.from_ref.ensures.value at (c.in_ok-put_new_auths-in-Create.ensures.done clean))

pub returns-in_ok-put_new_auths-in-Import-clause-done : goal.returns-in_ok-put_new_auths-in-Import-clause-done
returns-in_ok-put_new_auths-in-Import-clause-done g c clean = rw c.in-Import.is (rw c.deref-in-Import.ensures.value at (c.in_ok-put_new_auths-in-Import.ensures.done clean))
