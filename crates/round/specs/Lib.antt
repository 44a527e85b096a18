-- Round: key maker, first messages, replies and finish give the survivors' total.
pub mod Round
