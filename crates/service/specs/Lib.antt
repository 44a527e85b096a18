-- View: what a service's state stands for. Calls: what each call answers and leaves. Promise: that the calls are document 01's steps.
pub mod View
pub mod Calls
pub mod Promise
