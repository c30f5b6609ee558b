-- What follows from the request alone.
use Rattle.std.specs.Prelude.{◌==◌, not, Bool, length}
use Rattle.http_messages.specs.declared.response.ContentType.{ContentType}
use Rattle.requests.specs.RequestFaults.{body_names, form_of}
use Rattle.requests.specs.declared.action.Action.{Action}

-- an HTTP request has a body if it has members beside those that its path names
abbrev pub takes_body : Action → Bool
takes_body action = not (length (body_names action) == 0)

-- the form in which an action asks for a list
abbrev pub list_form : Action → ContentType
list_form action = (form_of action).list_form
